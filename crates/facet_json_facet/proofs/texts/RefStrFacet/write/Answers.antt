use Rattle.std.proofs.Common.{refl}
use Rattle.std.proofs.lemmas.Str.{is_utf8-from_IsUtf8}
use Rattle.facet_json_tree.proofs.ScalarCalls.{scalar-called}
use Rattle.facet_json_facet.proofs.ScalarsOfRust.{on-ok, text-of_rust}
use Rattle.facet_json_facet.proofs.texts.RefStrFacet.write.Goals as goal

pub returns-clause-written : goal.returns-clause-written
returns-clause-written c = (scalar-called _ _ _ _ c.scalar.result refl c.scalar.ensures.appends).written

pub returns-clause-of_rust : goal.returns-clause-of_rust
returns-clause-of_rust c =
    let utf8 = rw c.as_bytes-utf8.ensures.value at c.as_bytes-utf8.ensures.utf8 in
    on-ok _ c.scalar.result (text-of_rust _ (is_utf8-from_IsUtf8 c.args.self.now.now utf8))

pub returns-clause-always : goal.returns-clause-always
returns-clause-always c = on-ok (Unit {0}) c.scalar.result tt
