-- What was read of the number ends in the part.
use Rattle.std.proofs.Common.{◌-◌, ◌≤◌, ◌<◌, length}
use Rattle.facet_json_scan.specs.Scanner.{EndsIn}
use Rattle.facet_json_scan.specs.Inner.Found.{number_part_of}
use Rattle.facet_json_scan.proofs.Segments.{between}
use Rattle.facet_json_scan.proofs.scanner.token.number_from.Given as goal

abbrev pub invariant-loop-byte : goal.invariant-loop-byte
invariant-loop-byte l =
    record {
      ahead : l.start < l.end;
      within : l.end ≤ length l.buffer;
      ends : EndsIn (number_part_of l.fn.part) (between l.buffer l.start l.at) → EndsIn (number_part_of l.part)
          (between l.buffer l.start l.end);
    }

abbrev pub decreases-loop-byte : goal.decreases-loop-byte
decreases-loop-byte l = length l.buffer - l.end
