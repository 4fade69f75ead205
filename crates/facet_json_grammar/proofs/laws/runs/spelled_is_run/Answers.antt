use Rattle.facet_json_grammar.proofs.Runs.SpelledRuns.{spelled_is_run}
use Rattle.facet_json_grammar.proofs.laws.runs.spelled_is_run.Goals as goal

pub returns : goal.returns
returns c = spelled_is_run
