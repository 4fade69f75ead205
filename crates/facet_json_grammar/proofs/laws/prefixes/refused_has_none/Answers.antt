use Rattle.facet_json_grammar.proofs.RefusedHasNone.{refused_has_none}
use Rattle.facet_json_grammar.proofs.laws.prefixes.refused_has_none.Goals as goal

pub returns : goal.returns
returns c = refused_has_none
