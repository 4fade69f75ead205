use Rattle.facet_json_grammar.proofs.Writing.QuotedByCharacters as laws
use Rattle.facet_json_grammar.proofs.laws.texts.quoted_by_characters.Goals as goal

pub returns : goal.returns
returns c = laws.quoted_by_characters
