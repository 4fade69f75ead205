use Rattle.std.proofs.Common.{rules}
use Rattle.facet_format.proofs.numeral.number_parts.Goals as goal

pub returns-then-has_hint : goal.returns-then-has_hint
returns-then-has_hint c = search rules

pub returns-else-begins_number : goal.returns-else-begins_number
returns-else-begins_number c = search rules
