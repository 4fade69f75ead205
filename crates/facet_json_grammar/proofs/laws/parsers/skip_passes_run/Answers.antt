use Rattle.facet_json_grammar.proofs.RunsPassed.{skip-runs}
use Rattle.facet_json_grammar.proofs.laws.parsers.skip_passes_run.Goals as goal

pub returns : goal.returns
returns c = skip-runs
