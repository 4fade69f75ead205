use Rattle.facet_json_grammar.proofs.LongestPrefix.{one_given}
use Rattle.facet_json_grammar.proofs.laws.prefixes.one_given.Goals as goal

pub returns : goal.returns
returns c = one_given
