use Rattle.facet_json_grammar.proofs.Runs.OneRun.{one_run}
use Rattle.facet_json_grammar.proofs.laws.runs.one_run.Goals as goal

pub returns : goal.returns
returns c = one_run
