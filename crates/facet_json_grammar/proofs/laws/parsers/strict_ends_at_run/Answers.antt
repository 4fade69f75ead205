use Rattle.facet_json_grammar.proofs.OneRun.EndsAtRun.{ends_at_run, tells_run}
use Rattle.facet_json_grammar.proofs.laws.parsers.strict_ends_at_run.Goals as goal

pub returns : goal.returns
returns c = record { ends = ends_at_run; tells = tells_run }
