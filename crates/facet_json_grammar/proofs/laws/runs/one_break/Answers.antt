use Rattle.facet_json_grammar.proofs.Runs.OneRun.{one_break}
use Rattle.facet_json_grammar.proofs.laws.runs.one_break.Goals as goal

pub returns : goal.returns
returns c = one_break
