use Rattle.facet_json_grammar.proofs.Parts.OnePart.{one-part}
use Rattle.facet_json_grammar.proofs.laws.parts.one_part.Goals as goal

pub returns : goal.returns
returns c = one-part
