use Rattle.facet_json_grammar.proofs.Values.TreeTexts as laws
use Rattle.facet_json_grammar.proofs.laws.written.indent_is_not_read.Goals as goal

pub returns : goal.returns
returns c = laws.indent_is_not_read
