use Rattle.facet_json_grammar.proofs.Runs.OneRun.{runs_or_breaks_off}
use Rattle.facet_json_grammar.proofs.laws.runs.runs_or_breaks_off.Goals as goal

pub returns : goal.returns
returns c = runs_or_breaks_off
