-- What was read of the string is described by the two flags.
use Rattle.std.proofs.Common.{◌-◌, ◌≤◌, ◌<◌, length}
use Rattle.facet_json_token.specs.Gap.{Mode}
use Rattle.facet_json_scan.specs.Scanner.{Describes, in_text}
use Rattle.facet_json_scan.proofs.Segments.{between}
use Rattle.facet_json_scan.proofs.scanner.token.text_from.Given as goal

abbrev pub invariant-loop-byte : goal.invariant-loop-byte
invariant-loop-byte l =
    record {
      ahead : l.start < l.end;
      within : l.end ≤ length l.buffer;
      described : (mode : Mode) → Describes mode (in_text l.fn.escaped l.fn.has_escapes) (between l.buffer l.start l.at) →
          Describes mode (in_text l.escaped l.has_escapes) (between l.buffer l.start l.end);
    }

abbrev pub decreases-loop-byte : goal.decreases-loop-byte
decreases-loop-byte l = length l.buffer - l.end
