-- A digit or a minus begins a number.
use Rattle.std.proofs.Common.{refl, arith}
use Rattle.facet_json_token.proofs.FirstBytes.{start_of-number_range}
use Rattle.facet_json_reader.proofs.single.whole_at.Goals as goal

pub short_whole_in-requires-clause-number : goal.short_whole_in-requires-clause-number
short_whole_in-requires-clause-number c =
    start_of-number_range c.in_ok-first.field-0.now (grind arith) (grind arith) (grind arith) (grind arith)

pub returns-in_ok-len-in-45 : goal.returns-in_ok-len-in-45
returns-in_ok-len-in-45 c =
    let is = c.in_ok-len-in-45.ensures in (record { value = _; there = is.0; allowed = is.1 }, refl)
