-- How many stand in what is passed.
use Rattle.std.proofs.Common.{◌≡◌, ◌≤◌, count_by, take}
use Rattle.facet_format.specs.Line.{is_feed}
use Rattle.facet_format.proofs.line.feeds.Given as goal

abbrev pub invariant-loop-byte : goal.invariant-loop-byte
invariant-loop-byte l = record { counted : l.count ≡ count_by is_feed (take l.byte-index l.text); within : l.count ≤ l.byte-index }
