-- A minus or a digit begins a number.
use Rattle.std.proofs.Common.{arith}
use Rattle.facet_json_token.proofs.FirstBytes.{start_of-number_range}
use Rattle.facet_json_reader.proofs.reader.Reader.number_start.Goals as goal

pub returns-in-45-clause-number : goal.returns-in-45-clause-number
returns-in-45-clause-number c = start_of-number_range c.in_ok-at.first (grind arith) (grind arith) (grind arith) (grind arith)

pub returns-in-45-2-clause-number : goal.returns-in-45-2-clause-number
returns-in-45-2-clause-number c = start_of-number_range c.in_ok-at.first (grind arith) (grind arith) (grind arith) (grind arith)
