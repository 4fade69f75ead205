use Rattle.std.proofs.lemmas.Result.{IfOk-weaker, IfErr-weaker, err_from_is_err_and}
use Rattle.facet_format.specs.Views.{refusal_of}
use Rattle.facet_json_core.proofs.Refusing.{event-tells, goes-there, mismatch-about, tells-later}
use Rattle.facet_json_core.proofs.Meaning.Keeping.{keeps-then}
use Rattle.facet_json_core.proofs.Meaning.Walks.NextOnWalk.{goes-keeps}
use Rattle.facet_json_tree.specs.Inner.PointerParts.{unescaped}
use Rattle.facet_json_tree.proofs.PointerIndex.{index-unescaped}
use Rattle.facet_json.proofs.NodesPointed.{in-object, in-object-lacks, in-list, in-list-lacks, in-scalar, no-value, no-event}
use Rattle.facet_json.proofs.pointer.find_child.Goals as goal

pub returns-in_err-next_of_value-clause-lacks : goal.returns-in_err-next_of_value-clause-lacks
returns-in_err-next_of_value-clause-lacks c =
    let p = err_from_is_err_and c.from_residual.result c.from_residual.ensures.1 in
    rw (p.1, p.2) (no-event _ (refusal_of c.in_err-next_of_value.field-0.0) c.in_err-next_of_value.ensures.lacks)

pub returns-in_err-next_of_value-clause-keeps : goal.returns-in_err-next_of_value-clause-keeps
returns-in_err-next_of_value-clause-keeps c = goes-keeps _ _ c.next_of_value.ensures.onward

pub returns-in_err-what_begins-clause-lacks : goal.returns-in_err-what_begins-clause-lacks
returns-in_err-what_begins-clause-lacks c =
    let p = err_from_is_err_and c.from_residual-in_err-what_begins.result c.from_residual-in_err-what_begins.ensures.1 in
    rw (p.1, p.2) (no-value _ _ _ (refusal_of c.in_err-what_begins.field-0.0) c.in_err-what_begins.ensures.refused c.in_ok-next_of_value.ensures.walks)

pub returns-in_err-what_begins-clause-keeps : goal.returns-in_err-what_begins-clause-keeps
returns-in_err-what_begins-clause-keeps c = goes-keeps _ _ c.next_of_value.ensures.onward

pub returns-in_err-what_begins-clause-tells : goal.returns-in_err-what_begins-clause-tells
returns-in_err-what_begins-clause-tells c =
    let p = err_from_is_err_and c.from_residual-in_err-what_begins.result c.from_residual-in_err-what_begins.ensures.1 in
    rw (p.1, p.2) (event-tells c.in_ok-next_of_value.ensures.passed (mismatch-about _ _ c.in_err-what_begins.ensures.told))

-- ---- an object, a list

pub returns-in-Object-clause-finds : goal.returns-in-Object-clause-finds
returns-in-Object-clause-finds c =
    let begins = rw c.in-Object.is at c.in_ok-what_begins.ensures.taken in
    IfOk-weaker c.find_named.result _ _ (λ is found. in-object (unescaped c.args.token.now) is _ _ _ _ begins c.in_ok-next_of_value.ensures.walks found) c.find_named.ensures.finds

pub returns-in-List-clause-finds : goal.returns-in-List-clause-finds
returns-in-List-clause-finds c =
    let begins = rw c.in-List.is at c.in_ok-what_begins.ensures.taken in
    let token = c.args.token.now in
    IfOk-weaker c.find_item.result _ _ (λ is found. in-list (unescaped token) _ is _ _ _ _ (index-unescaped token) begins c.in_ok-next_of_value.ensures.walks found) c.find_item.ensures.finds

pub returns-in-Object-clause-lacks : goal.returns-in-Object-clause-lacks
returns-in-Object-clause-lacks c =
    let begins = rw c.in-Object.is at c.in_ok-what_begins.ensures.taken in
    IfErr-weaker c.find_named.result _ _ (λ e lacks. in-object-lacks _ _ _ (refusal_of e) begins c.in_ok-next_of_value.ensures.walks lacks) c.find_named.ensures.lacks

pub returns-in-List-clause-lacks : goal.returns-in-List-clause-lacks
returns-in-List-clause-lacks c =
    let begins = rw c.in-List.is at c.in_ok-what_begins.ensures.taken in
    IfErr-weaker c.find_item.result _ _ (λ e lacks. in-list-lacks _ _ _ (refusal_of e) begins c.in_ok-next_of_value.ensures.walks lacks) c.find_item.ensures.lacks

pub returns-in-Object-clause-keeps : goal.returns-in-Object-clause-keeps
returns-in-Object-clause-keeps c = keeps-then _ _ _ (goes-keeps _ _ c.next_of_value.ensures.onward) c.find_named.ensures.keeps

pub returns-in-List-clause-keeps : goal.returns-in-List-clause-keeps
returns-in-List-clause-keeps c = keeps-then _ _ _ (goes-keeps _ _ c.next_of_value.ensures.onward) c.find_item.ensures.keeps

pub returns-in-Object-clause-tells : goal.returns-in-Object-clause-tells
returns-in-Object-clause-tells c =
    IfErr-weaker c.find_named.result _ _ (λ e told. tells-later (goes-there c.next_of_value.ensures.onward) told) c.find_named.ensures.tells

pub returns-in-List-clause-tells : goal.returns-in-List-clause-tells
returns-in-List-clause-tells c =
    IfErr-weaker c.find_item.result _ _ (λ e told. tells-later (goes-there c.next_of_value.ensures.onward) told) c.find_item.ensures.tells

-- ---- a scalar

pub returns-in-Scalar-clause-finds : goal.returns-in-Scalar-clause-finds
returns-in-Scalar-clause-finds c =
    let begins = rw c.in-Scalar.is at c.in_ok-what_begins.ensures.taken in
    in-scalar (unescaped c.args.token.now) _ _ _ begins c.in_ok-next_of_value.ensures.walks

pub returns-in-Scalar-clause-keeps : goal.returns-in-Scalar-clause-keeps
returns-in-Scalar-clause-keeps c = goes-keeps _ _ c.next_of_value.ensures.onward
