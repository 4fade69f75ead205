-- How many stand in what is passed.
use Rattle.std.proofs.Common.{◌≡◌, ◌≤◌, count_by, take}
use Rattle.std.specs.Fmt.{is_char_start}
use Rattle.facet_format.proofs.line.characters.Given as goal

abbrev pub invariant-loop-byte : goal.invariant-loop-byte
invariant-loop-byte l = record { counted : l.count ≡ count_by is_char_start (take l.byte-index l.text); within : l.count ≤ l.byte-index }
