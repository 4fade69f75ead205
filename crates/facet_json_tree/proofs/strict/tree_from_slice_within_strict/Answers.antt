use Rattle.std.proofs.Common.{Some}
use Rattle.std.proofs.lemmas.Result.{IfOk-weaker}
use Rattle.facet_json_tree.proofs.StrictWithin.{all_read-only, all_read-strict-within, all_read-no_deeper, not_all_read-only-within, not_all_read-deeper}
use Rattle.facet_json_tree.proofs.Answered.{either_way}
use Rattle.facet_json_tree.proofs.strict.tree_from_slice_within_strict.Goals as goal

pub returns-clause-document : goal.returns-clause-document
returns-clause-document c =
    let read = rw c.new_strict.ensures at c.strict_document.ensures.read in
    IfOk-weaker c.strict_document.result _ _ (λ t h. all_read-strict-within c.args.input.now c.args.depth _ h) read

pub returns-clause-only : goal.returns-clause-only
returns-clause-only c root value d shallow =
    either_way c.strict_document.result (rw c.new_strict.ensures at c.strict_document.ensures.read) (rw c.new_strict.ensures at c.strict_document.ensures.refused)
    (λ t h. all_read-only c.args.input.now (Some c.args.depth) _ h root value d) (λ e h. not_all_read-only-within c.args.input.now c.args.depth _ h root value d shallow)

pub returns-clause-deeper : goal.returns-clause-deeper
returns-clause-deeper c root value s d beyond =
    either_way c.strict_document.result (rw c.new_strict.ensures at c.strict_document.ensures.read) (rw c.new_strict.ensures at c.strict_document.ensures.refused)
    (λ t h. all_read-no_deeper c.args.input.now c.args.depth _ h root value s d beyond) (λ e h. not_all_read-deeper c.args.input.now c.args.depth _ h root value s d beyond)

pub returns-clause-tells : goal.returns-clause-tells
returns-clause-tells c = rw c.new_strict.ensures at c.strict_document.ensures.tells
