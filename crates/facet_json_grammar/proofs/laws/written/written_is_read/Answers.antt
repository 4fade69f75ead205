use Rattle.facet_json_grammar.proofs.Values.TreeTexts as laws
use Rattle.facet_json_grammar.proofs.laws.written.written_is_read.Goals as goal

pub returns : goal.returns
returns c = laws.written_is_read
