-- How a run of the program ends.
use Rattle.std.specs.Prelude.{◌≡◌, ◌≢◌, ◌⊎◌, None}
use Rattle.std.specs.declared.io.ErrorKind.{ErrorKind}
use Rattle.std.specs.declared.io.ErrorKind.TheVariants.{OutOfMemory}
use Rattle.facet_json_command.specs.declared.run.Outcome.{Outcome}
use Rattle.facet_json_command.specs.declared.run.Outcome.TheVariants.{Done, Refused, Io, Usage}

-- An answer that says nothing of the input: out of memory, which is code 9, or a read or a write that failed.
abbrev pub IsFailure : Outcome → Type 0
IsFailure Done = ⊥
IsFailure (Refused code span) = code ≡ 9
IsFailure Io = Unit {0}
IsFailure Usage = ⊥

-- The same, where the memory that was wanted has no place in the input.
abbrev pub IsFaultOfRun : Outcome → Type 0
IsFaultOfRun outcome = (outcome ≡ Refused 9 None) ⊎ (outcome ≡ Io)

-- A call of the system that failed with an error of this kind is answered so: an allocation that failed in its midst is out of memory.
abbrev pub IsToldAs : ErrorKind → Outcome → Type 0
IsToldAs kind outcome = (kind ≡ OutOfMemory → outcome ≡ Refused 9 None) × (kind ≢ OutOfMemory → outcome ≡ Io)
