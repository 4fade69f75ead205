-- Where tokens stop a reader that reads no text, and what stands after a key.
use Rattle.std.specs.Prelude.{codes}
use Rattle.std.proofs.Common.{◌≡◌, ◌≤◌, ℕ, false, List, length, Some, Ok, Err, refl, ◌∙◌}
use Rattle.facet_json_token.specs.declared.token.Token.TheVariants as code
use Rattle.facet_json_token.specs.declared.token.SpannedToken.{SpannedToken}
use Rattle.facet_json_token.specs.declared.fault.Fault.{Fault}
use Rattle.facet_json_reader.specs.declared.place.Place.{Place as RustPlace}
use Rattle.facet_json_reader.specs.declared.place.Turn.TheVariants as turns
use Rattle.facet_format.specs.Complaint.{Refusal, refusal_at, unexpected_token}
use Rattle.facet_format.specs.Event.{ContainerKind}
use Rattle.facet_format.specs.Span.{span_at}
use Rattle.facet_format.specs.Views.{span_of}
use Rattle.facet_json_token.specs.Cut.{cut}
use Rattle.facet_json_token.specs.Gap.{Mode}
use Rattle.facet_json_token.specs.Token.{Kind, colon}
use Rattle.facet_json_token.specs.Tokens.{Tokens, ended, next}
use Rattle.facet_json_token.specs.TokenList.{tokens_from}
use Rattle.facet_json_token.specs.Views.{kind_of, cut_of, told_refusal}
use Rattle.facet_json_grammar.specs.Language.{lenient}
use Rattle.facet_json_grammar.specs.Place.{Place, after_key, goes_on}
use Rattle.facet_json_grammar.specs.Unread.{IsStuckUnread, at_end, at_fault, past_key, HasColon, colon_stands}
use Rattle.facet_json_reader.specs.PlaceViews.{place_of, turn_of, turn_by}
use Rattle.facet_json_reader.proofs.CutsAtPlaces.{is_refused}
use Rattle.facet_json_reader.proofs.StoppingTokens.{none-at_end, stopped-at_place, stopped-after_key}
use Rattle.facet_json_reader.proofs.ColonAfterKey.{colon-stands}

-- ---- where tokens stop

-- A fault stops the reader wherever it stands.
pub unread-fault : (buffer : List ℕ) (position : ℕ) (mode : Mode) (e : Fault) (place : Place) (r : Refusal) → position ≤ length buffer →
    cut_of (Err e) ≡ Some (cut buffer position mode) → r ≡ told_refusal e →
    IsStuckUnread buffer place (tokens_from buffer mode position) r
unread-fault buffer position mode e place r room h p =
    let f = is_refused buffer position (lenient mode) e room h in rw (p ∙ f.passed_on, f.tokens) (at_fault place f.what)

-- A token without a turn, or the end, stops it.
pub unread-stopped : (buffer : List ℕ) (mode : Mode) (p : RustPlace) (position : ℕ) (t : SpannedToken) (r : Refusal) → position ≤ length buffer →
    cut_of (Ok t) ≡ Some (cut buffer position mode) → turn_of turns.Stops ≡ turn_by (place_of p) (kind_of t.token) →
    (t.token ≡ code.Eof → IsStuckUnread buffer (place_of p) ended r) →
    ((kind : Kind) (rest : Tokens) → kind_of t.token ≡ Some kind → goes_on (place_of p) kind ≡ false →
    IsStuckUnread buffer (place_of p) (next (record { kind = kind; span = span_of t.span }) rest) r) →
    IsStuckUnread buffer (place_of p) (tokens_from buffer mode position) r
unread-stopped buffer mode p position t r h e turns at_the_end at_token =
    stopped-at_place buffer position (lenient mode) t p (λ ts. IsStuckUnread buffer (place_of p) ts r) h e turns at_the_end at_token

-- ---- after a key

module _ (buffer : List ℕ) (position : ℕ) (mode : Mode) (t : SpannedToken) where
  -- The colon is next.
  pub has-colon : (stack : List ContainerKind) → position ≤ length buffer → cut_of (Ok t) ≡ Some (cut buffer position mode) →
      t.token ≡ code.Colon →
      HasColon buffer stack (tokens_from buffer mode position) (Ok (past_key (span_of t.span) stack))
  has-colon stack p e is =
      let tokens = (colon-stands buffer position (lenient mode) t p e is).tokens in
      rw tokens (colon_stands (record { kind = colon; span = span_of t.span }) _ refl)

  -- The input ends before it.
  pub colon-ended : position ≤ length buffer → cut_of (Ok t) ≡ Some (cut buffer position mode) →
      t.token ≡ code.Eof → span_of t.span ≡ span_at (length buffer) 0 →
      IsStuckUnread buffer after_key (tokens_from buffer mode position) (refusal_at (unexpected_token (codes "Eof") (codes "':'")) (span_of t.span))
  colon-ended p e is s = let none = none-at_end buffer position (lenient mode) t p e is in rw (none, s) (at_end after_key)

  -- Another token is next.
  pub colon-missing : position ≤ length buffer → cut_of (Ok t) ≡ Some (cut buffer position mode) →
      (t.token ≡ code.Colon → ⊥) → (t.token ≡ code.Eof → ⊥) → (r : Refusal) →
      ((kind : Kind) (rest : Tokens) → kind_of t.token ≡ Some kind → goes_on after_key kind ≡ false →
      IsStuckUnread buffer after_key (next (record { kind = kind; span = span_of t.span }) rest) r) →
      IsStuckUnread buffer after_key (tokens_from buffer mode position) r
  colon-missing p e no_mark no_end r stops =
      stopped-after_key buffer position (lenient mode) t (λ ts. IsStuckUnread buffer after_key ts r) p e no_mark no_end stops
