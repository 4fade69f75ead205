use Rattle.facet_json_grammar.proofs.Values.Readings as laws
use Rattle.facet_json_grammar.proofs.laws.written.one_reading.Goals as goal

pub returns : goal.returns
returns c = laws.one_reading
