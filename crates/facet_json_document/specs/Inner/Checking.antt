-- What a parser passed up to the end of a document.
use Rattle.std.specs.Prelude.{◌≡◌, ◌≢◌, ℕ, Bool, true, false, Some, None, Ok, List, [], ◌∷◌}
use Rattle.facet_format.specs.Cursor.{event, next}
use Rattle.facet_format.specs.Event.{Event, Passed}
use Rattle.facet_format.specs.Span.{Span}
use Rattle.facet_format.specs.Complaint.{Refusal}
use Rattle.facet_json_token.specs.Tokens.{Tokens, ended}
use Rattle.facet_json_grammar.specs.Place.{after_root}
use Rattle.facet_json_grammar.specs.Refusal.{IsStuck}
use Rattle.facet_json_grammar.specs.Future.{finished, events_before}
use Rattle.facet_json_grammar.specs.Move.{Moves}
use Rattle.facet_json_grammar.specs.Now.{Now, future_of}

-- the last token of events, or this one where there are none
abbrev pub last_after : Span → List Passed → Span
last_after last [] = last
last_after last (p ∷ events) = last_after p.last events

-- An event was passed, or the end was told.
abbrev pub Told : Bool → Now → Now → Type 0
Told true old new = (e : Event) × Moves old next (event (Ok (Some e))) new
Told false old new = Moves old next (event (Ok None)) new

-- Events were passed, and the last token is theirs.
pub record PassesSome (old now : Now) : Type 0 where
  pub events : List Passed
  pub comes : future_of old ≡ events_before events (future_of now)
  pub ends : now.cursor.spot.place.last ≡ last_after old.cursor.spot.place.last events
  pub unpeeked : now.cursor.spot.peeked ≡ false

-- All events were passed, and this was the last token.
pub record PassesUp (old : Now) (last : Span) : Type 0 where
  pub events : List Passed
  pub comes : future_of old ≡ events_before events finished
  pub ends : last ≡ last_after old.cursor.spot.place.last events

-- Tokens stand behind a root, and are refused so.
pub record IsStuckBehind (text : List ℕ) (rest : Tokens) (refusal : Refusal) : Type 0 where
  pub some : rest ≢ ended
  pub so : IsStuck text after_root rest refusal
