use Rattle.std.proofs.Common.{◌≡◌, ◌++◌, take}
use Rattle.std.specs.List.{flat_map}
use Rattle.facet_json_grammar.specs.Quoted.{hex_byte}
use Rattle.facet_json_serializer.proofs.bytes_text.push_digits.Given as goal

abbrev pub invariant-loop-byte : goal.invariant-loop-byte
invariant-loop-byte l = l.out ≡ l.initial.out ++ flat_map hex_byte (take l.byte-index l.bytes)
