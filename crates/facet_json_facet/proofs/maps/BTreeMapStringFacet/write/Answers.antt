use Rattle.std.proofs.Common.{refl}
use Rattle.std.proofs.lemmas.Result.{err_from_is_err_and}
use Rattle.facet_json_tree.proofs.OfRust.{seen-of_rust}
use Rattle.facet_json_core.proofs.Meaning.Objects.MapEntries.{seen-map}
use Rattle.facet_json_facet.proofs.ScalarsOfRust.{on-ok}
use Rattle.facet_json_facet.proofs.MapCalls.{map-begun, key-refused, entry-written, map-ended, all-of_rust, all-have}
use Rattle.facet_json_facet.proofs.maps.BTreeMapStringFacet.write.Goals as goal

pub loop-key-init : goal.loop-key-init
loop-key-init g c =
    map-begun g.T.Facet.view g.T.Facet.shape.tree_of g.T.Facet.shape.always _ _ c.args.self.now.entries _ c.into_iter-key-iterator.ensures.into_iter_gives.0 c.in_ok-begin_struct.ensures.appends

pub returns-in_err-field_key-clause-refused : goal.returns-in_err-field_key-clause-refused
returns-in_err-field_key-clause-refused g c =
    let p = err_from_is_err_and c.from_residual-in_err-field_key.result c.from_residual-in_err-field_key.ensures.1 in
    rw (p.1, p.2) (key-refused g.T.Facet.view g.T.Facet.shape.tree_of g.T.Facet.shape.always _ _ _ _ _ _ _ _ c.as_str.result.now _ c.loop-key.invariant c.in-Some.ensures.steps c.as_str.ensures.value c.in_err-field_key.ensures.appends).0

pub returns-in_err-field_key-clause-spent : goal.returns-in_err-field_key-clause-spent
returns-in_err-field_key-clause-spent g c =
    let p = err_from_is_err_and c.from_residual-in_err-field_key.result c.from_residual-in_err-field_key.ensures.1 in
    rw (p.1) (key-refused g.T.Facet.view g.T.Facet.shape.tree_of g.T.Facet.shape.always _ _ _ _ _ _ _ _ c.as_str.result.now _ c.loop-key.invariant c.in-Some.ensures.steps c.as_str.ensures.value c.in_err-field_key.ensures.appends).1

pub loop-key-preserved : goal.loop-key-preserved
loop-key-preserved g c =
    let wrote = c.in_ok-write.ensures in
    entry-written g.T.Facet.view g.T.Facet.shape.tree_of g.T.Facet.shape.always _ _ _ _ _ _ _ _ _ c.as_str.result.now c.loop-key.invariant c.in-Some.ensures.steps c.as_str.ensures.value c.in_ok-field_key.ensures.appends wrote.written wrote.of_rust wrote.always

pub returns-clause-written : goal.returns-clause-written
returns-clause-written g c =
    (map-ended g.T.Facet.view g.T.Facet.shape.tree_of g.T.Facet.shape.always _ _ _ _ c.loop-key.invariant c.in-None.ensures.steps.0 _ c.end_struct.result c.end_struct.ensures.appends).written

pub returns-clause-refused : goal.returns-clause-refused
returns-clause-refused g c =
    (map-ended g.T.Facet.view g.T.Facet.shape.tree_of g.T.Facet.shape.always _ _ _ _ c.loop-key.invariant c.in-None.ensures.steps.0 _ c.end_struct.result c.end_struct.ensures.appends).refused

pub returns-clause-spent : goal.returns-clause-spent
returns-clause-spent g c =
    (map-ended g.T.Facet.view g.T.Facet.shape.tree_of g.T.Facet.shape.always _ _ _ _ c.loop-key.invariant c.in-None.ensures.steps.0 _ c.end_struct.result c.end_struct.ensures.appends).spent

pub returns-clause-of_rust : goal.returns-clause-of_rust
returns-clause-of_rust g c =
    seen-of_rust c.end_struct.result _ _ refl (all-of_rust g.T.Facet.view g.T.Facet.shape.tree_of g.T.Facet.shape.always _ _ _ _ c.loop-key.invariant c.in-None.ensures.steps.0)

pub returns-clause-always : goal.returns-clause-always
returns-clause-always g c =
    let have = all-have g.T.Facet.view g.T.Facet.shape.tree_of g.T.Facet.shape.always _ _ _ _ c.loop-key.invariant c.in-None.ensures.steps.0 in
    on-ok _ c.end_struct.result
    (seen-map g.T.Facet.view g.T.Facet.shape.always c.args.self.now.entries c.into_iter-key-iterator.ensures.into_iter_gives.5 have)
