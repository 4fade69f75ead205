use Rattle.std.proofs.Common.{rules}
use Rattle.facet_json.proofs.fields.NeedFields.finish.Goals as goal

pub returns-in-None-clause-span : goal.returns-in-None-clause-span
returns-in-None-clause-span c = search rules

pub returns-in-None-clause-told : goal.returns-in-None-clause-told
returns-in-None-clause-told g c = (_, c.missing.ensures.told)
