use Rattle.std.proofs.Common.{arith}
use Rattle.facet_json_facet.proofs.ListCalls.{list-begun, item-written, list-ended, list-of_rust, list-have}
use Rattle.facet_json_facet.proofs.lists.VecFacet.write.Goals as goal

pub loop-item-init : goal.loop-item-init
loop-item-init g c =
    list-begun g.T.Facet.view g.T.Facet.shape.tree_of g.T.Facet.shape.always _ _ c.as_slice-item-items.result.now c.in_ok-begin_seq.ensures.appends

pub loop-item-preserved : goal.loop-item-preserved
loop-item-preserved g c =
    let l = c.loop-item in
    let xs = c.as_slice-item-items.result.now in
    item-written g.T.Facet.view g.T.Facet.shape.tree_of g.T.Facet.shape.always _ _ _ xs l.item-index c.item-item.result (omega arith) c.item-item.is l.invariant
    c.in_ok-write.ensures.written c.in_ok-write.ensures.of_rust c.in_ok-write.ensures.always

pub returns-clause-written : goal.returns-clause-written
returns-clause-written g c =
    rw c.as_slice-item-items.ensures.value at
    (list-ended g.T.Facet.view g.T.Facet.shape.tree_of g.T.Facet.shape.always _ _ c.as_slice-item-items.result.now c.loop-item.item-index c.end_seq.result (omega arith) c.loop-item.invariant _ c.end_seq.ensures.appends).written

pub returns-clause-refused : goal.returns-clause-refused
returns-clause-refused g c =
    (list-ended g.T.Facet.view g.T.Facet.shape.tree_of g.T.Facet.shape.always _ _ c.as_slice-item-items.result.now c.loop-item.item-index c.end_seq.result (omega arith) c.loop-item.invariant _ c.end_seq.ensures.appends).refused

pub returns-clause-spent : goal.returns-clause-spent
returns-clause-spent g c =
    (list-ended g.T.Facet.view g.T.Facet.shape.tree_of g.T.Facet.shape.always _ _ c.as_slice-item-items.result.now c.loop-item.item-index c.end_seq.result (omega arith) c.loop-item.invariant _ c.end_seq.ensures.appends).spent

pub returns-clause-of_rust : goal.returns-clause-of_rust
returns-clause-of_rust g c =
    rw c.as_slice-item-items.ensures.value at (list-of_rust g.T.Facet.view g.T.Facet.shape.tree_of g.T.Facet.shape.always _ _ c.as_slice-item-items.result.now c.loop-item.item-index c.end_seq.result (omega arith) c.loop-item.invariant)

pub returns-clause-always : goal.returns-clause-always
returns-clause-always g c =
    rw c.as_slice-item-items.ensures.value at (list-have g.T.Facet.view g.T.Facet.shape.tree_of g.T.Facet.shape.always _ _ c.as_slice-item-items.result.now c.loop-item.item-index c.end_seq.result (omega arith) c.loop-item.invariant)
