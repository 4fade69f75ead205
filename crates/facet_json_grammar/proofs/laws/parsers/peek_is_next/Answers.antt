use Rattle.facet_json_grammar.proofs.MoveLaws.{moves-peeked}
use Rattle.facet_json_grammar.proofs.laws.parsers.peek_is_next.Goals as goal

pub returns : goal.returns
returns c = moves-peeked
