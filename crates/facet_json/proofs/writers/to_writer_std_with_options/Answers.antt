use Rattle.std.proofs.Common.{rules}
use Rattle.facet_json.proofs.writers.to_writer_std_with_options.Goals as goal

pub returns-in-Err-clause-written : goal.returns-in-Err-clause-written
returns-in-Err-clause-written c = search rules
