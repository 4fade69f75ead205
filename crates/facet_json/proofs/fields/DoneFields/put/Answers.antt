use Rattle.std.proofs.Common.{rules}
use Rattle.facet_json_facet.proofs.ScalarsOfRust.{on-ok}
use Rattle.facet_json.proofs.fields.DoneFields.put.Goals as goal

pub returns-clause-unread : goal.returns-clause-unread
returns-clause-unread c = search rules

pub returns-clause-owned : goal.returns-clause-owned
returns-clause-owned c kept before = on-ok (Unit {0}) c.pass_value.result tt
