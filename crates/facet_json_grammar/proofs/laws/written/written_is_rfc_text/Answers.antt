use Rattle.facet_json_grammar.proofs.Rfc.Trees as laws
use Rattle.facet_json_grammar.proofs.laws.written.written_is_rfc_text.Goals as goal

pub returns : goal.returns
returns c = laws.written_is_rfc
