-- How a string or number without a meaning is refused where it is read.
use Rattle.std.proofs.Common.{◌≡◌, ℕ, Bool, true, false, List, refl, sym, ap, ◌∙◌}
use Rattle.std.specs.Prelude.{slice_range}
use Rattle.std.specs.Option.{option_map}
use Rattle.facet_format.specs.declared.event.Span.{Span as RustSpan}
use Rattle.facet_format.specs.Complaint.{Refusal, refusal_at, invalid_utf8}
use Rattle.facet_format.specs.Views.{span_of}
use Rattle.facet_json_token.specs.DecodeViews.{IsItsText, IsFirstRefusal}
use Rattle.facet_json_token.specs.Token as token
use Rattle.facet_json_token.proofs.FaultSteps.{told-no_text}
use Rattle.facet_json_token.proofs.PlainText.{decoded-plain_none}
use Rattle.facet_json_grammar.specs.Refusal.{of_plain_string, of_escaped_string}
use Rattle.facet_json_grammar.specs.Tree as tree
use Rattle.facet_json_reader.specs.TokenViews.{IsContent, IsMeaningless}

module _ (buffer : List ℕ) (s : RustSpan) (start finish : ℕ) where
  -- ---- strings

  -- A string with a backslash whose content has a fault.
  pub escaped_unread : (h : Bool) (told r : Refusal) → h ≡ true → IsContent buffer s start finish h →
      IsFirstRefusal (slice_range buffer start finish) start told → r ≡ told →
      IsMeaningless buffer (token.string start finish h) (span_of s) r
  escaped_unread true told r h is t p =
      let none = told-no_text (slice_range buffer start finish) start told t in
      record {
        judged = refl;
        meaningless = ap (option_map tree.text) none;
        refused = of_escaped_string start finish t.fault refl t.is_first (p ∙ t.told);
      }
  escaped_unread false told r h is t p = cc

  -- A string without one whose content isn't text.
  pub plain_unread : (h : Bool) → h ≡ false → IsContent buffer s start finish h →
      (IsItsText (slice_range buffer start finish) → ⊥) →
      IsMeaningless buffer (token.string start finish h) (span_of s) (refusal_at invalid_utf8 (span_of s))
  plain_unread true h is none = cc
  plain_unread false h is none =
      let plain = sym is.escapes in
      record {
        judged = refl;
        meaningless = ap (option_map tree.text) (decoded-plain_none (slice_range buffer start finish) plain (λ u. none (plain, u)));
        refused = of_plain_string start finish refl refl;
      }
