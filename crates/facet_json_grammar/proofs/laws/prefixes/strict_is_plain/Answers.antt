use Rattle.facet_json_grammar.proofs.StrictRoot.{strict_is_plain}
use Rattle.facet_json_grammar.proofs.laws.prefixes.strict_is_plain.Goals as goal

pub returns : goal.returns
returns c = strict_is_plain
