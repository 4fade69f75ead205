use Rattle.facet_json_grammar.proofs.RestoreBringsBack.{saved-back}
use Rattle.facet_json_grammar.proofs.laws.parsers.restore_brings_back.Goals as goal

pub returns : goal.returns
returns c = saved-back
