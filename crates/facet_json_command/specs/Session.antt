-- Which ends of a run tell that a read or a write failed.
use Rattle.std.specs.Prelude.{◌≡◌, ◌||◌, Bool, true, false, Result, Ok, Err}
use Rattle.facet_json_command.specs.declared.run.Outcome.{Outcome}
use Rattle.facet_json_command.specs.declared.run.Outcome.TheVariants.{Done, Refused, Io, Usage}

-- how a run ends that printed so
abbrev pub outcome_of : {T : Type 0} → Result T Outcome → Outcome
outcome_of (Ok done) = Done
outcome_of (Err outcome) = outcome

abbrev pub tells_io : Outcome → Bool
tells_io Done = false
tells_io (Refused code span) = false
tells_io Io = true
tells_io Usage = false

-- A run's mark, before and after: it is set exactly where this outcome tells that a read or a write failed, and stays set.
abbrev pub Marks : Bool → Bool → Outcome → Type 0
Marks before after outcome = after ≡ (tells_io outcome || before)
