use Rattle.facet_json_grammar.proofs.EndsInTime.{next-ends-in}
use Rattle.facet_json_grammar.proofs.laws.parsers.ends_in_time_in.Goals as goal

pub returns : goal.returns
returns c = next-ends-in
