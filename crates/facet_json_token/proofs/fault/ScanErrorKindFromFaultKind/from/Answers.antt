use Rattle.std.proofs.Common.{ℕ, List, Some, refl, ap}
use Rattle.facet_json_token.specs.Token.{unexpected_eof}
use Rattle.facet_json_token.proofs.fault.ScanErrorKindFromFaultKind.from.Goals as goal

pub returns-in-UnexpectedChar : goal.returns-in-UnexpectedChar
returns-in-UnexpectedChar c = rw c.in-UnexpectedChar.is refl

pub returns-in-UnexpectedEof : goal.returns-in-UnexpectedEof
returns-in-UnexpectedEof c = rw c.in-UnexpectedEof.is (ap (λ (l : List ℕ). Some (unexpected_eof l)) c.text.ensures)

pub returns-in-InvalidUtf8 : goal.returns-in-InvalidUtf8
returns-in-InvalidUtf8 c = rw c.in-InvalidUtf8.is refl
