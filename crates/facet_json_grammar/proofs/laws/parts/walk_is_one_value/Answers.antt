use Rattle.facet_json_grammar.proofs.Parts.WalksAreValues.{walk_is_one_value}
use Rattle.facet_json_grammar.proofs.laws.parts.walk_is_one_value.Goals as goal

pub returns : goal.returns
returns c = walk_is_one_value
