use Rattle.std.proofs.Common.{None}
use Rattle.std.proofs.lemmas.Result.{IfOk-weaker}
use Rattle.facet_json_tree.proofs.StrictWithin.{all_read-strict, all_read-only, not_all_read-only}
use Rattle.facet_json_tree.proofs.Answered.{either_way}
use Rattle.facet_json_tree.proofs.strict.tree_from_slice_strict.Goals as goal

pub returns-clause-document : goal.returns-clause-document
returns-clause-document c =
    let read = rw c.new_strict.ensures at c.strict_document.ensures.read in
    IfOk-weaker c.strict_document.result _ _ (λ t h. all_read-strict c.args.input.now None _ h) read

pub returns-clause-only : goal.returns-clause-only
returns-clause-only c root value d =
    either_way c.strict_document.result (rw c.new_strict.ensures at c.strict_document.ensures.read) (rw c.new_strict.ensures at c.strict_document.ensures.refused)
    (λ t h. all_read-only c.args.input.now None _ h root value d) (λ e h. not_all_read-only c.args.input.now _ h root value d)

pub returns-clause-tells : goal.returns-clause-tells
returns-clause-tells c = rw c.new_strict.ensures at c.strict_document.ensures.tells
