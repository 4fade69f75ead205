use Rattle.std.proofs.Common.{rules}
use Rattle.facet_json_tree.proofs.reader.scalar.Goals as goal

pub returns-in_ok-into_owned-in-Str-clause-span : goal.returns-in_ok-into_owned-in-Str-clause-span
returns-in_ok-into_owned-in-Str-clause-span c = search rules
