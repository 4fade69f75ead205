use Rattle.facet_json_grammar.proofs.Scalars.QuotedTexts as laws
use Rattle.facet_json_grammar.proofs.laws.written.quoted_decodes_alone.Goals as goal

pub returns : goal.returns
returns c = laws.quoted_decodes_alone
