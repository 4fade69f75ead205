use Rattle.facet_json_grammar.proofs.MoveIsStep.{move-steps}
use Rattle.facet_json_grammar.proofs.laws.parsers.move_is_step.Goals as goal

pub returns : goal.returns
returns c = move-steps
