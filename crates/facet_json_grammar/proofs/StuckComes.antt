-- Where no document goes on, nothing comes.
use Rattle.std.specs.Prelude.{ℕ, List}
use Rattle.std.proofs.Common.{◌≡◌, ℕ, Bool, true, false, cond, List, refl}
use Rattle.facet_format.specs.Complaint.{Refusal}
use Rattle.facet_format.specs.Event.{ContainerKind}
use Rattle.facet_json_token.specs.Token.{Kind, Token}
use Rattle.facet_json_token.specs.Token as token
use Rattle.facet_json_token.specs.Tokens.{Tokens}
use Rattle.facet_json_grammar.specs.Place.{Place, after_key, Turn, stops, place_turn, goes_on}
use Rattle.facet_json_grammar.specs.Language.{Rules}
use Rattle.facet_json_grammar.specs.Refusal.{needs_meaning, IsStuck, at_end, at_fault, meaningless, misplaced}
use Rattle.facet_json_grammar.specs.Future.{stuck, within, turn, is_meaningless, reads_by, reads_colon_by}
use Rattle.facet_json_grammar.proofs.WalkComes.{nowhere-stops, reads-turn}

-- A turn to stop is to stop, with a meaning or without one.
still_stops : (b : Bool) (way : Turn) → way ≡ stops → cond b stops way ≡ stops
still_stops true way e = refl
still_stops false way e = e

module _ (by : Rules) (buffer : List ℕ) where
  -- Where the tokens are refused at a place, nothing comes.
  pub stuck-reads : (stack : List ContainerKind) (place : Place) (ts : Tokens) (r : Refusal) →
      IsStuck buffer place ts r → reads_by by buffer stack (within place) ts ≡ stuck place ts
  unfolding reads_by
  stuck-reads stack place _ _ (at_end _) = refl
  stuck-reads stack place _ _ (at_fault _ f) = refl
  stuck-reads stack place _ r (meaningless _ t rest _ needs none because) =
      let way : turn buffer place t ≡ stops = rw (needs, none) refl in reads-turn by buffer stack place t rest stops way
  stuck-reads stack place _ _ (misplaced _ t rest means never) =
      reads-turn by buffer stack place t rest stops (still_stops (is_meaningless buffer t) _ (nowhere-stops (place_turn place t.kind) never))

  -- Nor does it after a key, where its colon is missing.
  pub stuck-reads_colon : (stack : List ContainerKind) (key : Token) (ts : Tokens) (r : Refusal) →
      IsStuck buffer after_key ts r → reads_colon_by by buffer stack key ts ≡ stuck after_key ts
  unfolding reads_colon_by
  stuck-reads_colon stack key _ _ (at_end _) = refl
  stuck-reads_colon stack key _ _ (at_fault _ f) = refl
  stuck-reads_colon stack key _ r (meaningless _ t rest _ needs none because) = rw (needy t.kind needs, reads_colon_by) refl
    where
      needy : (k : Kind) → needs_meaning k ≡ true → goes_on after_key k ≡ false
      needy token.colon e = cc
      needy _ e = refl
  stuck-reads_colon stack key _ _ (misplaced _ t rest means never) = rw (never, reads_colon_by) refl
