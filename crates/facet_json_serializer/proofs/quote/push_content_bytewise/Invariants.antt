use Rattle.facet_json_serializer.proofs.Escapes.{IsWritten}
use Rattle.facet_json_serializer.proofs.quote.push_content_bytewise.Given as goal

abbrev pub invariant-loop-i : goal.invariant-loop-i
invariant-loop-i l = IsWritten l.bytes l.initial.out l.out l.start l.i
