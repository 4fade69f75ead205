use Rattle.facet_json_grammar.proofs.Spelling.OneSpelling.{one_document}
use Rattle.facet_json_grammar.proofs.laws.documents.one_document.Goals as goal

pub returns : goal.returns
returns c = one_document
