use Rattle.facet_json_grammar.proofs.PrefixGivesWalk.{prefix_gives_walk}
use Rattle.facet_json_grammar.proofs.laws.prefixes.prefix_gives_walk.Goals as goal

pub returns : goal.returns
returns c = prefix_gives_walk
