use Rattle.std.proofs.lemmas.Result.{err_from_is_err_and}
use Rattle.facet_json_document.proofs.NodesRead.{refused-deep}
use Rattle.facet_json_document.proofs.document.built.Built.adds_event.Goals as goal

pub returns-in_err-add-in-Some-clause-refused : goal.returns-in_err-add-in-Some-clause-refused
returns-in_err-add-in-Some-clause-refused c =
    let p = err_from_is_err_and c.from_residual-in_err-add-in-Some.result c.from_residual-in_err-add-in-Some.ensures.1 in
    let passed = rw c.in-Some.is at c.in_ok-event.ensures.next in
    rw (p.1, p.2) (refused-deep c.args.self.now.room _ _ _ _ passed c.in_err-add-in-Some.ensures.refused)
