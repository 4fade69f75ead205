use Rattle.std.proofs.lemmas.Result.{err_from_is_err_and, IfOk-weaker, IfErr-weaker}
use Rattle.facet_json_tree.proofs.MovingOn.{moves-next}
use Rattle.facet_json_tree.proofs.ReadingWithin.{none-value-within, began-within}
use Rattle.facet_json_tree.proofs.ValuesBegin.{began}
use Rattle.facet_json_core.proofs.Refusing.{lacks-tells}
use Rattle.facet_json_tree.proofs.reader.begin_value.Goals as goal

pub returns-in_err-next_in_line-clause-refused : goal.returns-in_err-next_in_line-clause-refused
returns-in_err-next_in_line-clause-refused c free =
    let p = err_from_is_err_and c.from_residual.result c.from_residual.ensures.1 in
    rw (p.1, p.2) (none-value-within c.args.depth c.args.parser.now _ (c.in_err-next_in_line.ensures.refused free))

pub returns-clause-moves : goal.returns-clause-moves
returns-clause-moves c =
    IfOk-weaker c.begun.result _ _ (λ t h. moves-next c.in_ok-next_in_line.ensures.steps) c.begun.ensures.begun

pub returns-clause-begun : goal.returns-clause-begun
returns-clause-begun c =
    IfOk-weaker c.begun.result _ _ (λ t h. began _ _ _ _ _ c.in_ok-next_in_line.ensures.passed h c.in_ok-next_in_line.ensures.moves) c.begun.ensures.begun

pub returns-clause-refused : goal.returns-clause-refused
returns-clause-refused c free =
    IfErr-weaker c.begun.result _ _ (λ e h. began-within c.args.depth _ _ _ _ _ c.in_ok-next_in_line.ensures.passed h) c.begun.ensures.refused

pub returns-clause-tells : goal.returns-clause-tells
returns-clause-tells c =
    IfErr-weaker c.begun.result _ _ (λ e about. lacks-tells c.in_ok-next_in_line.ensures.passed about) c.begun.ensures.about
