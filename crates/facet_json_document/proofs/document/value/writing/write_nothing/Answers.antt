use Rattle.std.proofs.Common.{[], refl}
use Rattle.facet_format.specs.Event as event
use Rattle.facet_json_tree.proofs.ScalarCalls.{scalar-called}
use Rattle.facet_json_document.proofs.document.value.writing.write_nothing.Goals as goal

pub returns-clause-written : goal.returns-clause-written
returns-clause-written c = (scalar-called _ _ (event.bytes []) _ _ refl c.scalar.ensures.appends).written
