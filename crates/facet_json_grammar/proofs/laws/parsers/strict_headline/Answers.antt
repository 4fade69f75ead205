use Rattle.facet_json_grammar.proofs.StrictAnswered.{strict-answered}
use Rattle.facet_json_grammar.proofs.laws.parsers.strict_headline.Goals as goal

pub returns : goal.returns
returns c = strict-answered
