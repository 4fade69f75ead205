use Rattle.facet_json_grammar.proofs.Strict.WrittenTexts as laws
use Rattle.facet_json_grammar.proofs.laws.written.written_is_strict.Goals as goal

pub returns : goal.returns
returns c = laws.written_is_strict
