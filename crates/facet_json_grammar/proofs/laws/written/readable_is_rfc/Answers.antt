use Rattle.facet_json_grammar.proofs.Strict.ReadableTexts.{readable-is_rfc}
use Rattle.facet_json_grammar.proofs.laws.written.readable_is_rfc.Goals as goal

pub returns : goal.returns
returns c = readable-is_rfc
