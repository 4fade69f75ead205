use Rattle.facet_json_grammar.proofs.BegunIsPrefix.{begun_is_prefix}
use Rattle.facet_json_grammar.proofs.laws.prefixes.begun_is_prefix.Goals as goal

pub returns : goal.returns
returns c = begun_is_prefix
