-- The token that is next at a place, the end after the root, and refusals after separators.
use Rattle.std.specs.Prelude.{ℕ, List}
use Rattle.std.proofs.Common.{◌≡◌, ◌≤◌, ◌∙◌, ℕ, false, List, length, Some, Ok, refl, sym, ap, subst}
use Rattle.facet_json_token.specs.declared.token.Token.{Token as RustToken}
use Rattle.facet_json_token.specs.declared.token.Token.TheVariants as code
use Rattle.facet_json_token.specs.declared.token.SpannedToken.{SpannedToken}
use Rattle.facet_json_reader.specs.declared.place.Place.{Place as RustPlace}
use Rattle.facet_json_reader.specs.declared.place.Turn.{Turn as RustTurn}
use Rattle.facet_json_reader.specs.declared.place.Turn.TheVariants as turns
use Rattle.facet_json_reader.specs.declared.reader.Reader.{Reader}
use Rattle.facet_json_reader.specs.declared.reader.Stage.TheVariants as stages
use Rattle.facet_format.specs.Complaint.{Refusal}
use Rattle.facet_format.specs.Event.{ContainerKind}
use Rattle.facet_format.specs.Span.{Span, stop}
use Rattle.facet_format.specs.Views.{span_of}
use Rattle.facet_json_grammar.specs.Language.{Language, rules}
use Rattle.facet_json_grammar.specs.StrictTokens.{tokens_in, cut_in}
use Rattle.facet_json_token.specs.Token.{Kind}
use Rattle.facet_json_token.specs.Tokens.{Tokens, ended, next}
use Rattle.facet_json_token.specs.Views.{kind_of, cut_of}
use Rattle.facet_json_grammar.specs.Future.{Future, within, over, reads_by, behind_root}
use Rattle.facet_json_grammar.specs.Place.{stops, goes_on}
use Rattle.facet_json_reader.specs.PlaceViews.{place_of, turn_of, turn_by}
use Rattle.facet_json_reader.specs.Views.{stage_of, comes_at, coming, IsTurn, StopsAt, IsRefusedBefore}
use Rattle.facet_json_reader.proofs.EventsAtTurns.{stops-refused}
use Rattle.facet_json_reader.proofs.CutsAtPlaces.{IsCut, ends, stands, is_cut}
use Rattle.facet_json_reader.proofs.StoppingTokens.{stopped-at_place}

-- ---- the end

over_reads : (language : Language) (buffer : List ℕ) (stack : List ContainerKind) (ts : Tokens) →
    reads_by (rules language) buffer stack over ts ≡ behind_root (rules language) ts
unfolding reads_by
over_reads language buffer stack ts = refl

-- After the root comes what comes behind it.
pub over-comes : (buffer : List ℕ) (language : Language) (r : Reader) → r.stage ≡ stages.Over →
    coming buffer language r ≡ behind_root (rules language) (tokens_in language buffer (stop (span_of r.last)))
over-comes buffer language r e =
    ap (λ s. comes_at buffer language r.contexts (stage_of s) (stop (span_of r.last))) e
    ∙ over_reads language buffer r.contexts (tokens_in language buffer (stop (span_of r.last)))

-- ---- the next token

module _ (buffer : List ℕ) (language : Language) (p : RustPlace) (position : ℕ) (t : SpannedToken) where
  turn_by_cut : (w : RustTurn) → IsCut buffer position language t → turn_of w ≡ turn_by (place_of p) (kind_of t.token) →
      (turn_of w ≡ stops → ⊥) → IsTurn buffer language (place_of p) position t w
  turn_by_cut w (ends is_end none) e goes =
      absurd (goes (e ∙ ap (λ (u : RustToken). turn_by (place_of p) (kind_of u)) is_end))
  turn_by_cut w (stands s) e goes = record {
    kind = s.kind;
    is_kind = s.is_kind;
    past = s.past;
    ends = s.within;
    tokens = s.tokens;
    turns = sym (e ∙ ap (turn_by (place_of p)) s.is_kind);
  }

  -- A token that has a turn is next.
  pub is-turn : (w : RustTurn) → position ≤ length buffer → cut_of (Ok t) ≡ Some (cut_in language buffer position) →
      turn_of w ≡ turn_by (place_of p) (kind_of t.token) → (turn_of w ≡ stops → ⊥) →
      IsTurn buffer language (place_of p) position t w
  is-turn w h e turns goes = turn_by_cut w (is_cut buffer position language t h e) turns goes

module _ (buffer : List ℕ) (language : Language) (stack : List ContainerKind) (p : RustPlace) (position : ℕ) (t : SpannedToken) where
  -- A token without a turn, or the end, is refused.
  pub stopped-refused : (last : Span) (refusal : Refusal) → position ≤ length buffer →
      cut_of (Ok t) ≡ Some (cut_in language buffer position) →
      turn_of turns.Stops ≡ turn_by (place_of p) (kind_of t.token) →
      (t.token ≡ code.Eof → StopsAt buffer (place_of p) ended refusal) →
      ((kind : Kind) (rest : Tokens) → kind_of t.token ≡ Some kind → goes_on (place_of p) kind ≡ false →
      StopsAt buffer (place_of p) (next (record { kind = kind; span = span_of t.span }) rest) refusal) →
      IsRefusedBefore buffer last (comes_at buffer language stack (within (place_of p)) position) refusal
  stopped-refused last refusal h e turns at_end at_token =
      stops-refused buffer language stack (place_of p) position last (tokens_in language buffer position) refusal refl
      (stopped-at_place buffer position language t p (λ ts. StopsAt buffer (place_of p) ts refusal) h e turns at_end at_token)

-- ---- after separators

-- What is refused after separators is refused before them.
pub earlier-refused : (buffer : List ℕ) (last : Span) (later earlier : Future) (refusal : Refusal) → later ≡ earlier →
    IsRefusedBefore buffer last later refusal → IsRefusedBefore buffer last earlier refusal
earlier-refused buffer last later earlier refusal same x = subst (λ f. IsRefusedBefore buffer last f refusal) same x
