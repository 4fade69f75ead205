use Rattle.facet_json_grammar.proofs.StandsOnWalk.{fresh-stands}
use Rattle.facet_json_grammar.proofs.laws.parsers.new_stands.Goals as goal

pub returns : goal.returns
returns c = fresh-stands
