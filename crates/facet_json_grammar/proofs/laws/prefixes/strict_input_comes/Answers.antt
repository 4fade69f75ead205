use Rattle.facet_json_grammar.proofs.StrictRoot.{strict_input-comes}
use Rattle.facet_json_grammar.proofs.laws.prefixes.strict_input_comes.Goals as goal

pub returns : goal.returns
returns c = strict_input-comes
