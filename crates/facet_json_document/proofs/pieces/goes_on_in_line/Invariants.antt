use Rattle.std.proofs.Common.{◌-◌, length}
use Rattle.facet_json_document.proofs.pieces.goes_on_in_line.Given as goal

abbrev pub decreases-loop-byte : goal.decreases-loop-byte
decreases-loop-byte l = length l.text - l.at
