use Rattle.facet_json_grammar.proofs.Parts.PartsWithin.{parts_within}
use Rattle.facet_json_grammar.proofs.laws.parts.parts_within.Goals as goal

pub returns : goal.returns
returns c = parts_within
