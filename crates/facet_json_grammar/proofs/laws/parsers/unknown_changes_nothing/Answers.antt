use Rattle.facet_json_grammar.proofs.MoveLaws.{moves-unknown}
use Rattle.facet_json_grammar.proofs.laws.parsers.unknown_changes_nothing.Goals as goal

pub returns : goal.returns
returns c = moves-unknown
