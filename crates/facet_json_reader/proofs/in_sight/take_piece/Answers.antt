-- What does not take an event stays so.
use Rattle.facet_json_reader.specs.Inner.InSight.{not_taken}
use Rattle.facet_json_reader.proofs.in_sight.take_piece.Goals as goal

pub returns-else-take-clause-left : goal.returns-else-take-clause-left
returns-else-take-clause-left g c = not_taken _ (c.take.ensures.left c.if-take.false)
