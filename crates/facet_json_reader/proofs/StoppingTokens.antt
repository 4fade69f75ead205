-- Where a token that is cut, or the end, stops a reader: at a place where it has no turn, and after a key. What is said of the tokens that are left there
-- is theirs.
use Rattle.std.proofs.Common.{◌≡◌, ◌≤◌, ◌∙◌, ℕ, false, List, length, Some, Ok, refl, sym, ap, subst}
use Rattle.std.proofs.lemmas.Option.{same_Some}
use Rattle.facet_format.specs.Views.{span_of}
use Rattle.facet_json_token.specs.declared.token.Token.{Token as RustToken}
use Rattle.facet_json_token.specs.declared.token.Token.TheVariants as code
use Rattle.facet_json_token.specs.declared.token.SpannedToken.{SpannedToken}
use Rattle.facet_json_grammar.specs.Language.{Language}
use Rattle.facet_json_grammar.specs.StrictTokens.{tokens_in, cut_in}
use Rattle.facet_json_token.specs.Token.{Kind}
use Rattle.facet_json_token.specs.Tokens.{Tokens, ended, next}
use Rattle.facet_json_token.specs.Views.{kind_of, cut_of}
use Rattle.facet_json_grammar.specs.Place.{after_key, leads_on, goes_on}
use Rattle.facet_json_reader.specs.declared.place.Place.{Place as RustPlace}
use Rattle.facet_json_reader.specs.declared.place.Turn.TheVariants as turns
use Rattle.facet_json_reader.specs.PlaceViews.{place_of, turn_of, turn_by}
use Rattle.facet_json_reader.proofs.CutsAtPlaces.{IsCut, ends, stands, is_cut}

-- Another token than a colon is none.
no_colon : (t : RustToken) (kind : Kind) → (t ≡ code.Colon → ⊥) → kind_of t ≡ Some kind → goes_on after_key kind ≡ false
no_colon code.Colon kind isnt k = absurd (isnt refl)
no_colon code.Eof kind isnt k = cc
no_colon (code.NeedMore n) kind isnt k = cc
no_colon _ kind isnt k = subst (λ x. goes_on after_key x ≡ false) (same_Some _ _ k) refl

module _ (buffer : List ℕ) (position : ℕ) (language : Language) (t : SpannedToken) where
  ended_by : IsCut buffer position language t → t.token ≡ code.Eof → tokens_in language buffer position ≡ ended
  ended_by (ends is_end none) is = none
  ended_by (stands s) is = let none = subst (λ (u : RustToken). kind_of u ≡ Some s.kind) is s.is_kind in cc

  -- Where the end is cut, no token is left.
  pub none-at_end : position ≤ length buffer → cut_of (Ok t) ≡ Some (cut_in language buffer position) → t.token ≡ code.Eof →
      tokens_in language buffer position ≡ ended
  none-at_end p e is = ended_by (is_cut buffer position language t p e) is

  stopped_by : (place : RustPlace) (Holds : Tokens → Type 0) → IsCut buffer position language t →
      turn_of turns.Stops ≡ turn_by (place_of place) (kind_of t.token) → (t.token ≡ code.Eof → Holds ended) →
      ((kind : Kind) (rest : Tokens) → kind_of t.token ≡ Some kind → goes_on (place_of place) kind ≡ false →
      Holds (next (record { kind = kind; span = span_of t.span }) rest)) → Holds (tokens_in language buffer position)
  stopped_by place Holds (ends is_end none) e at_the_end at_token = rw none (at_the_end is_end)
  stopped_by place Holds (stands s) e at_the_end at_token =
      let never = ap leads_on (sym (e ∙ ap (turn_by (place_of place)) s.is_kind)) in
      let at = s.tokens in
      rw at (at_token s.kind _ s.is_kind never)

  -- At a place where the token has no turn, or the end.
  pub stopped-at_place : (place : RustPlace) (Holds : Tokens → Type 0) → position ≤ length buffer →
      cut_of (Ok t) ≡ Some (cut_in language buffer position) → turn_of turns.Stops ≡ turn_by (place_of place) (kind_of t.token) →
      (t.token ≡ code.Eof → Holds ended) →
      ((kind : Kind) (rest : Tokens) → kind_of t.token ≡ Some kind → goes_on (place_of place) kind ≡ false →
      Holds (next (record { kind = kind; span = span_of t.span }) rest)) → Holds (tokens_in language buffer position)
  stopped-at_place place Holds p e turns at_the_end at_token =
      stopped_by place Holds (is_cut buffer position language t p e) turns at_the_end at_token

  other_by : (Holds : Tokens → Type 0) → IsCut buffer position language t → (t.token ≡ code.Colon → ⊥) → (t.token ≡ code.Eof → ⊥) →
      ((kind : Kind) (rest : Tokens) → kind_of t.token ≡ Some kind → goes_on after_key kind ≡ false →
      Holds (next (record { kind = kind; span = span_of t.span }) rest)) → Holds (tokens_in language buffer position)
  other_by Holds (ends is_end none) no_mark no_end at_token = absurd (no_end is_end)
  other_by Holds (stands s) no_mark no_end at_token =
      let at = s.tokens in rw at (at_token s.kind _ s.is_kind (no_colon t.token s.kind no_mark s.is_kind))

  -- After a key, where the token is another than a colon.
  pub stopped-after_key : (Holds : Tokens → Type 0) → position ≤ length buffer → cut_of (Ok t) ≡ Some (cut_in language buffer position) →
      (t.token ≡ code.Colon → ⊥) → (t.token ≡ code.Eof → ⊥) →
      ((kind : Kind) (rest : Tokens) → kind_of t.token ≡ Some kind → goes_on after_key kind ≡ false →
      Holds (next (record { kind = kind; span = span_of t.span }) rest)) → Holds (tokens_in language buffer position)
  stopped-after_key Holds p e no_mark no_end at_token = other_by Holds (is_cut buffer position language t p e) no_mark no_end at_token
