use Rattle.std.proofs.Common.{rules}
use Rattle.facet_json_core.proofs.steps.objects.object_in.Goals as goal

pub returns-in-StructStart-clause-begins : goal.returns-in-StructStart-clause-begins
returns-in-StructStart-clause-begins c = search rules

pub returns-in-StructStart-clause-refused : goal.returns-in-StructStart-clause-refused
returns-in-StructStart-clause-refused c = search rules

pub returns-in-StructStart-clause-span : goal.returns-in-StructStart-clause-span
returns-in-StructStart-clause-span c = search rules

pub returns : goal.returns
returns c = search rules
