use Rattle.facet_json_grammar.proofs.RestoreBringsBack.{numbers-new}
use Rattle.facet_json_grammar.proofs.laws.parsers.numbers_are_new.Goals as goal

pub returns : goal.returns
returns c = numbers-new
