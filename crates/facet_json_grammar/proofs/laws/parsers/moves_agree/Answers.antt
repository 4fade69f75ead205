use Rattle.facet_json_grammar.proofs.MovesAgree.{moves-agree}
use Rattle.facet_json_grammar.proofs.laws.parsers.moves_agree.Goals as goal

pub returns : goal.returns
returns c = moves-agree
