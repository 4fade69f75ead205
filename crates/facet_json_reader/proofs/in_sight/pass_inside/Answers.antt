-- The innermost container is of this kind.
use Rattle.facet_json_reader.specs.Inner.InSight.{none_more}
use Rattle.facet_json_reader.proofs.in_sight.pass_inside.Goals as goal

pub returns-in-None-clause-far : goal.returns-in-None-clause-far
returns-in-None-clause-far g c = λ reached. record { several = none_more; front = reached }
