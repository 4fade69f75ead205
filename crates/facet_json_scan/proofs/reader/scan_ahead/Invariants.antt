use Rattle.std.proofs.Common.{◌≡◌, ◌-◌, length}
use Rattle.facet_json_scan.specs.Scanner.{first_unread}
use Rattle.facet_json_scan.specs.Inner.Stands.{Stands}
use Rattle.facet_json_scan.proofs.reader.scan_ahead.Given as goal

abbrev pub invariant-loop-token : goal.invariant-loop-token
invariant-loop-token l = record {
  stands : Stands l.buf l.tokens.items l.scanner;
  mode : l.scanner.mode ≡ l.initial.scanner.mode;
}

abbrev pub decreases-loop-token : goal.decreases-loop-token
decreases-loop-token l = length l.buf - first_unread l.scanner
