use Rattle.facet_json_grammar.proofs.Spelling.PlainIsJsonc.{plain_is_jsonc}
use Rattle.facet_json_grammar.proofs.laws.documents.plain_is_jsonc.Goals as goal

pub returns : goal.returns
returns c = plain_is_jsonc
