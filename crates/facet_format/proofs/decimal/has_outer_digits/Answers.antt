use Rattle.std.proofs.Common.{rules}
use Rattle.facet_format.proofs.decimal.has_outer_digits.Goals as goal

pub returns-then-digit_at : goal.returns-then-digit_at
returns-then-digit_at c = search rules

pub returns-else-digit_at : goal.returns-else-digit_at
returns-else-digit_at c = search rules
