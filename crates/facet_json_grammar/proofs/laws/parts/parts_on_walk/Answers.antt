use Rattle.facet_json_grammar.proofs.Parts.PartsOnWalk.{parts-on_walk}
use Rattle.facet_json_grammar.proofs.laws.parts.parts_on_walk.Goals as goal

pub returns : goal.returns
returns c = parts-on_walk
