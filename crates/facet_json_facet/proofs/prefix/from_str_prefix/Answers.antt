use Rattle.std.proofs.Common.{arith}
use Rattle.facet_json_token.specs.Gap.{plain}
use Rattle.facet_json_facet.proofs.prefix.from_str_prefix.Goals as goal

pub returns-clause-value : goal.returns-clause-value
returns-clause-value g c = c.value_and_end.ensures.value _ plain (rw (← c.as_bytes-bytes.ensures.value) c.new_trusted.ensures)

pub returns-clause-end : goal.returns-clause-end
returns-clause-end g c = c.value_and_end.ensures.end _ plain (omega arith) (rw (← c.as_bytes-bytes.ensures.value) c.new_trusted.ensures)

pub returns-clause-inside : goal.returns-clause-inside
returns-clause-inside g c = c.value_and_end.ensures.inside _ plain (omega arith) (rw (← c.as_bytes-bytes.ensures.value) c.new_trusted.ensures)
