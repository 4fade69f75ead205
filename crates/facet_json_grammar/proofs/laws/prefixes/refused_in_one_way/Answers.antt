use Rattle.facet_json_grammar.proofs.RefusedOnce.{refused_in_one_way}
use Rattle.facet_json_grammar.proofs.laws.prefixes.refused_in_one_way.Goals as goal

pub returns : goal.returns
returns c = refused_in_one_way
