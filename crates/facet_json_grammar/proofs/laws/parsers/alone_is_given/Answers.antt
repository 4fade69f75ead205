use Rattle.facet_json_grammar.proofs.InputIsAnswered.{alone_is_given}
use Rattle.facet_json_grammar.proofs.laws.parsers.alone_is_given.Goals as goal

pub returns : goal.returns
returns c = alone_is_given
