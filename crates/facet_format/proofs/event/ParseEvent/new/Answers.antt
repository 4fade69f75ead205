use Rattle.std.proofs.Common.{refl, rules}
use Rattle.facet_format.proofs.event.ParseEvent.new.Goals as goal

pub returns-clause-span : goal.returns-clause-span
returns-clause-span c = refl

pub returns-clause-kind : goal.returns-clause-kind
returns-clause-kind c = search rules
