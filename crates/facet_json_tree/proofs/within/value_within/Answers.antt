use Rattle.std.proofs.Common.{rules}
use Rattle.facet_json_tree.proofs.within.value_within.Goals as goal

pub returns-clause-read : goal.returns-clause-read
returns-clause-read c = search rules

pub returns-clause-refused : goal.returns-clause-refused
returns-clause-refused c = search rules
