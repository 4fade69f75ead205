use Rattle.std.proofs.Common.{sym}
use Rattle.facet_format.proofs.decimal.DecimalPartialEq.eq.Goals as goal

pub returns : goal.returns
returns c = rw (sym c.as_str.ensures.text, sym c.as_str-2.ensures.text) (search sym)
