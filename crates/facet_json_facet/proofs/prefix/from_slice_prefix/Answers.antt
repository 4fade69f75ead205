use Rattle.std.proofs.Common.{arith}
use Rattle.facet_json_facet.proofs.prefix.from_slice_prefix.Goals as goal

pub returns-clause-value : goal.returns-clause-value
returns-clause-value g c = c.value_and_end.ensures.value _ _ c.new.ensures

pub returns-clause-end : goal.returns-clause-end
returns-clause-end g c = c.value_and_end.ensures.end _ _ (omega arith) c.new.ensures

pub returns-clause-inside : goal.returns-clause-inside
returns-clause-inside g c = c.value_and_end.ensures.inside _ _ (omega arith) c.new.ensures
