use Rattle.std.proofs.Common.{◌≡◌, ◌++◌, drop}
use Rattle.facet_json_grammar.specs.Text.{numbers}
use Rattle.facet_json_serializer.proofs.ByteTexts.{numbers_on}
use Rattle.facet_json_serializer.proofs.bytes_text.push_numbers.Given as goal

abbrev pub invariant-loop-byte : goal.invariant-loop-byte
invariant-loop-byte l = l.out ++ numbers_on l.first (drop l.byte-index l.bytes) ≡ l.initial.out ++ numbers l.bytes
