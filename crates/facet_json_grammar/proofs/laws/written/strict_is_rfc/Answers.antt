use Rattle.facet_json_grammar.proofs.Strict.DocumentIsText.{document-is_text}
use Rattle.facet_json_grammar.proofs.Strict.TextIsDocument.{text-is_document}
use Rattle.facet_json_grammar.proofs.laws.written.strict_is_rfc.Goals as goal

pub returns : goal.returns
returns c buffer = (λ d. document-is_text buffer d.0 d.1 d.2, text-is_document buffer)
