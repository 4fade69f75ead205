use Rattle.std.proofs.Common.{rules}
use Rattle.facet_json.proofs.fields.MaybeFields.finish.Goals as goal

pub returns-clause-full : goal.returns-clause-full
returns-clause-full c = search rules
