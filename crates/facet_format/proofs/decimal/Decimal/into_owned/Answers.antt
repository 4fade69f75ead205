use Rattle.std.proofs.Common.{refl, sym, rules}
use Rattle.facet_format.proofs.decimal.Decimal.into_owned.Goals as goal

pub returns-in-Owned : goal.returns-in-Owned
returns-in-Owned c = rw (sym c.self.view_is, c.in-Owned.is) refl

pub returns-in-Ok : goal.returns-in-Ok
returns-in-Ok c = search rules

pub returns-in-Err : goal.returns-in-Err
returns-in-Err c = search rules
