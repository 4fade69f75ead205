-- What is found from here on is found from the position on.
use Rattle.std.proofs.Common.{◌-◌, ◌≤◌, length}
use Rattle.facet_json_scan.specs.declared.scanner.token.Found.{Found}
use Rattle.facet_json_token.specs.Views.{mode_of}
use Rattle.facet_json_scan.specs.Inner.Found.{FoundFrom}
use Rattle.facet_json_scan.proofs.scanner.token.scan_from.Given as goal

abbrev pub invariant-loop-end : goal.invariant-loop-end
invariant-loop-end l =
    record {
      within : l.at ≤ length l.buffer;
      same : (f : Found) → FoundFrom (mode_of l.mode) l.buffer l.at f → FoundFrom (mode_of l.mode) l.buffer l.position f;
    }

abbrev pub decreases-loop-end : goal.decreases-loop-end
decreases-loop-end l = length l.buffer - l.at
