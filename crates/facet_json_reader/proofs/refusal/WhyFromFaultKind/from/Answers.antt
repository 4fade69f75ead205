use Rattle.std.proofs.Common.{refl}
use Rattle.facet_json_reader.proofs.refusal.WhyFromFaultKind.from.Goals as goal

pub returns-in-UnexpectedChar : goal.returns-in-UnexpectedChar
returns-in-UnexpectedChar c = rw c.in-UnexpectedChar.is refl

pub returns-in-UnexpectedEof : goal.returns-in-UnexpectedEof
returns-in-UnexpectedEof c = rw c.in-UnexpectedEof.is refl

pub returns-in-InvalidUtf8 : goal.returns-in-InvalidUtf8
returns-in-InvalidUtf8 c = rw c.in-InvalidUtf8.is refl
