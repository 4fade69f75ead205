use Rattle.std.proofs.Common.{rules}
use Rattle.facet_format.proofs.event.FieldKey.copy.Goals as goal

pub returns : goal.returns
returns c = c.in_ok-name.ensures

pub returns-in_err-name : goal.returns-in_err-name
returns-in_err-name c = search rules
