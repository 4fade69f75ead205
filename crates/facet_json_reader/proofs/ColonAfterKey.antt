-- What stands after a key: its colon, the end, or another token.
use Rattle.std.proofs.Common.{◌≡◌, ◌≤◌, ◌∙◌, ℕ, false, List, length, Some, Ok, sym, subst}
use Rattle.std.proofs.lemmas.Option.{same_Some}
use Rattle.facet_json_token.specs.declared.token.Token.{Token as RustToken}
use Rattle.facet_json_token.specs.declared.token.Token.TheVariants as code
use Rattle.facet_json_token.specs.declared.token.SpannedToken.{SpannedToken}
use Rattle.facet_format.specs.Complaint.{Refusal, refusal_at, unexpected_token}
use Rattle.facet_format.specs.Span.{span_at}
use Rattle.facet_format.specs.Views.{span_of}
use Rattle.std.specs.Prelude.{codes}
use Rattle.facet_json_grammar.specs.Language.{Language}
use Rattle.facet_json_grammar.specs.StrictTokens.{tokens_in, cut_in}
use Rattle.facet_json_token.specs.Token.{Kind, colon}
use Rattle.facet_json_token.specs.Tokens.{Tokens, next}
use Rattle.facet_json_token.specs.Views.{kind_of, cut_of}
use Rattle.facet_json_grammar.specs.Place.{after_key, goes_on}
use Rattle.facet_json_grammar.specs.Refusal.{at_end}
use Rattle.facet_json_reader.specs.Views.{IsColon, StopsAt}
use Rattle.facet_json_reader.proofs.CutsAtPlaces.{IsCut, ends, stands, is_cut}
use Rattle.facet_json_reader.proofs.StoppingTokens.{none-at_end, stopped-after_key}

module _ (buffer : List ℕ) (position : ℕ) (language : Language) (t : SpannedToken) where
  colon_by : IsCut buffer position language t → t.token ≡ code.Colon → IsColon buffer language position (span_of t.span)
  colon_by (ends is_end none) is = let wrong : code.Eof ≡ code.Colon = sym is_end ∙ is in cc
  colon_by (stands s) is =
      let k : Some colon ≡ Some s.kind = subst (λ (u : RustToken). kind_of u ≡ Some s.kind) is s.is_kind in
      let kind_is = same_Some _ _ k in
      record { past = s.past; ends = s.within; tokens = rw (← kind_is) at s.tokens }

  -- A colon is next.
  pub colon-stands : position ≤ length buffer → cut_of (Ok t) ≡ Some (cut_in language buffer position) →
      t.token ≡ code.Colon → IsColon buffer language position (span_of t.span)
  colon-stands p e is = colon_by (is_cut buffer position language t p e) is

  -- The input ends.
  pub colon-ends : position ≤ length buffer → cut_of (Ok t) ≡ Some (cut_in language buffer position) →
      t.token ≡ code.Eof → span_of t.span ≡ span_at (length buffer) 0 →
      StopsAt buffer after_key (tokens_in language buffer position) (refusal_at (unexpected_token (codes "Eof") (codes "':'")) (span_of t.span))
  colon-ends p e is s = let none = none-at_end buffer position language t p e is in rw (none, s) (at_end after_key)

  -- Another token is next.
  pub colon-other : position ≤ length buffer → cut_of (Ok t) ≡ Some (cut_in language buffer position) →
      (t.token ≡ code.Colon → ⊥) → (t.token ≡ code.Eof → ⊥) → (r : Refusal) →
      ((kind : Kind) (rest : Tokens) → kind_of t.token ≡ Some kind → goes_on after_key kind ≡ false →
      StopsAt buffer after_key (next (record { kind = kind; span = span_of t.span }) rest) r) →
      StopsAt buffer after_key (tokens_in language buffer position) r
  colon-other p e no_mark no_end r stops =
      stopped-after_key buffer position language t (λ ts. StopsAt buffer after_key ts r) p e no_mark no_end stops
