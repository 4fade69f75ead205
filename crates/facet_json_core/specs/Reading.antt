-- What is said of a value that was read from a parser's events, and of how it was refused.
use Rattle.std.specs.Prelude.{◌≡◌, ◌⊎◌, ℕ, List}
use Rattle.facet_format.specs.Complaint.{Refusal, out_of_memory}
use Rattle.facet_json_token.specs.Tokens.{Tokens}
use Rattle.facet_json_grammar.specs.Place.{Place}
use Rattle.facet_json_grammar.specs.Refusal.{IsStuck}
use Rattle.facet_json_grammar.specs.Tree.{Tree}
use Rattle.facet_json_grammar.specs.Future.{Future, finished, stuck}
use Rattle.facet_json_grammar.specs.Now.{Now, future_of}
use Rattle.facet_json_core.specs.Told.{Tells, Breaks}

-- ---- how a reader is refused

-- Memory ran out.
abbrev pub LacksMemory : Refusal → Type 0
LacksMemory refusal = refusal.complaint ≡ out_of_memory

-- Memory ran out, or no document goes on with the tokens at the place, and it is refused so.
abbrev pub LacksOrStops : List ℕ → Place → Tokens → Refusal → Type 0
LacksOrStops buffer place rest refusal = LacksMemory refusal ⊎ IsStuck buffer place rest refusal

-- ---- one event

-- The next event is refused: memory ran out, or none comes.
pub data GivesNone (now : Now) (refusal : Refusal) : Type 0 where
  lacks_memory : LacksMemory refusal → GivesNone now refusal
  at_the_end : future_of now ≡ finished → GivesNone now refusal
  is_stuck : (place : Place) (rest : Tokens) → future_of now ≡ stuck place rest →
      IsStuck now.buffer place rest refusal → GivesNone now refusal

-- ---- values

-- What was read is what the events tell, where they tell something, and they don't break off within it.
pub record IsReadBy (V : Type 0) (tells : Future → V → Future → Type 0) (breaks : Place → Tokens → Future → Type 0)
    (start : Future) (value : V) (left : Future) : Type 0 where
  pub told : (v : V) (rest : Future) → tells start v rest → (value ≡ v) × (left ≡ rest)
  pub whole : (place : Place) (rest : Tokens) → breaks place rest start → ⊥

-- It was refused: where the events tell something, for lack of memory, and where they break off within it, for that or because
-- nothing goes on there.
pub record IsUnreadBy (V : Type 0) (tells : Future → V → Future → Type 0) (breaks : Place → Tokens → Future → Type 0)
    (buffer : List ℕ) (start : Future) (refusal : Refusal) : Type 0 where
  pub told : (v : V) (rest : Future) → tells start v rest → LacksMemory refusal
  pub broken : (place : Place) (rest : Tokens) → breaks place rest start → LacksOrStops buffer place rest refusal

abbrev pub IsValueRead : Future → Tree → Future → Type 0
IsValueRead = IsReadBy Tree Tells Breaks

abbrev pub IsValueUnread : List ℕ → Future → Refusal → Type 0
IsValueUnread = IsUnreadBy Tree Tells Breaks
