use Rattle.facet_json_grammar.proofs.Rfc.Strings as laws
use Rattle.facet_json_grammar.proofs.laws.written.quoted_is_rfc_string.Goals as goal

pub returns : goal.returns
returns c = laws.quoted_is_rfc
