use Rattle.facet_json_grammar.proofs.InputIsAnswered.{input-answered}
use Rattle.facet_json_grammar.proofs.laws.parsers.headline.Goals as goal

pub returns : goal.returns
returns c = input-answered
