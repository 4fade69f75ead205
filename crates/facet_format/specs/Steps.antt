-- What a call of a parser means that stands at a cursor.
use Rattle.std.specs.Prelude.{ℕ}
use Rattle.facet_format.specs.Part.{Source}
use Rattle.facet_format.specs.Cursor.{Cursor, Call, Answer, on_walk, Step}

-- From each cursor at which the parser stands on a walk, the call is one step, after which it stands at the cursor's new place.
abbrev pub IsStep : {S : Type 0} → (S → Source → Cursor ℕ → Type 0) → S → Call → Answer → S → Type 0
IsStep at old call answer new =
    (w : Source) (c : Cursor ℕ) → at old w c → (between : Cursor ℕ) × Step (on_walk w) c call answer between × at new w between
