use Rattle.facet_json_grammar.proofs.RunsPassed.{capture-runs}
use Rattle.facet_json_grammar.proofs.laws.parsers.capture_passes_run.Goals as goal

pub returns : goal.returns
returns c = capture-runs
