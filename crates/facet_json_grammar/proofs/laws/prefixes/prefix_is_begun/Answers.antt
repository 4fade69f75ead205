use Rattle.facet_json_grammar.proofs.BegunIsPrefix.{prefix_is_begun}
use Rattle.facet_json_grammar.proofs.laws.prefixes.prefix_is_begun.Goals as goal

pub returns : goal.returns
returns c = prefix_is_begun
