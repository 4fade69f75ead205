use Rattle.facet_json_grammar.proofs.RestoreBringsBack.{moves-numbered}
use Rattle.facet_json_grammar.proofs.laws.parsers.save_is_numbered.Goals as goal

pub returns : goal.returns
returns c = moves-numbered
