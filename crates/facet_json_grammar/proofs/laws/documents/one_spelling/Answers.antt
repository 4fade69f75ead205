use Rattle.facet_json_grammar.proofs.Spelling.OneSpelling.{one_spelling}
use Rattle.facet_json_grammar.proofs.laws.documents.one_spelling.Goals as goal

pub returns : goal.returns
returns c = one_spelling
