use Rattle.facet_json_grammar.proofs.Runs.OneRun.{no_run_breaks_off}
use Rattle.facet_json_grammar.proofs.laws.runs.no_run_breaks_off.Goals as goal

pub returns : goal.returns
returns c = no_run_breaks_off
