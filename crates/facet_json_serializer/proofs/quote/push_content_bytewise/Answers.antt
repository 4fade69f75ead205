use Rattle.std.proofs.Common.{sym}
use Rattle.facet_json_serializer.proofs.Escapes.{plain_escape, IsWritten-plain, IsWritten-escape}
use Rattle.facet_json_serializer.proofs.quote.push_content_bytewise.Goals as goal
use Rattle.facet_json_serializer.proofs.quote.push_content_bytewise.Goals.{then-needs_escape+in_ok-push_run_and_escaped, else-needs_escape}

pub loop-i-preserved : goal.loop-i-preserved
loop-i-preserved c =
    let l = c.loop-i in
    let bytes = c.args.bytes.now in
    let before = c.args.out.now in
    elim c.if-needs_escape.branch [
      | then-needs_escape+in_ok-push_run_and_escaped w ↦
          rw (w.start-is, w.out-is, w.in_ok-push_run_and_escaped.ensures)
          (IsWritten-escape bytes before l.out l.start l.i c.loop-i-test.true l.invariant)
      | else-needs_escape w ↦
          let plain = plain_escape _ (sym w.if-needs_escape.ensures) in
          rw (w.start-is, w.out-is) (IsWritten-plain bytes before l.out l.start l.i c.loop-i-test.true plain l.invariant)
    ]
