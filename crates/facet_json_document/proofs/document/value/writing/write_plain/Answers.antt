use Rattle.facet_json_tree.proofs.ScalarCalls.{raw-called}
use Rattle.facet_json_document.proofs.document.value.writing.write_plain.Goals as goal

pub returns-clause-written : goal.returns-clause-written
returns-clause-written c = λ t so. (raw-called _ _ _ t _ so c.raw_scalar.ensures.appends).written
