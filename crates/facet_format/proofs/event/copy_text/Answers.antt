use Rattle.std.proofs.Common.{ap, sym, rules}
use Rattle.facet_format.specs.HeldText.{text_of}
use Rattle.facet_format.proofs.event.copy_text.Goals as goal

pub returns-in-Borrowed : goal.returns-in-Borrowed
returns-in-Borrowed c = ap text_of (sym c.in-Borrowed.is)

pub returns-in-Owned : goal.returns-in-Owned
returns-in-Owned c = search rules
