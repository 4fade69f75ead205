use Rattle.facet_json_grammar.proofs.LongestPrefix.{input-comes}
use Rattle.facet_json_grammar.proofs.laws.prefixes.input_comes.Goals as goal

pub returns : goal.returns
returns c = input-comes
