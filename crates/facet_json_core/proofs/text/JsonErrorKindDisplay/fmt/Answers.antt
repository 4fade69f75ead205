use Rattle.facet_json_core.proofs.text.JsonErrorKindDisplay.fmt.Goals as goal
use Rattle.std.proofs.Common.{sym}

pub returns-in-UnexpectedToken-clause-writes : goal.returns-in-UnexpectedToken-clause-writes
returns-in-UnexpectedToken-clause-writes g c = rw (c.in-UnexpectedToken.is, sym c.deref.ensures) c.write_pair.ensures

pub returns-in-NumberOutOfRange-clause-writes : goal.returns-in-NumberOutOfRange-clause-writes
returns-in-NumberOutOfRange-clause-writes g c =
    rw (c.in-NumberOutOfRange.is, sym c.deref-in-NumberOutOfRange.ensures) c.write_pair-in-NumberOutOfRange.ensures
