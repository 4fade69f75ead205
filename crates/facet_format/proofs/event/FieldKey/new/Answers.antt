use Rattle.std.proofs.Common.{refl, rules}
use Rattle.facet_format.proofs.event.FieldKey.new.Goals as goal

pub returns-clause-name : goal.returns-clause-name
returns-clause-name c = refl

pub returns-clause-hint : goal.returns-clause-hint
returns-clause-hint c = search rules
