use Rattle.facet_json_serializer.specs.Inner.Window.{PlainBetween}
use Rattle.facet_json_serializer.proofs.quote.plain_few.Given as goal

abbrev pub invariant-loop-byte : goal.invariant-loop-byte
invariant-loop-byte l = PlainBetween l.text 0 l.byte-index
