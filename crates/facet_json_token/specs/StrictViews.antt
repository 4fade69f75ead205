-- What the checks of RFC 8259 return.
use Rattle.std.specs.Prelude.{◌≡◌, ℕ, List, Option, Some}
use Rattle.facet_json_token.specs.declared.token.ScanError.{ScanError}
use Rattle.facet_json_token.specs.declared.fault.FaultKind.TheVariants as faults
use Rattle.facet_json_token.specs.declared.fault.Fault.{Fault as RustFault}
use Rattle.facet_json_token.specs.Cut.{Cut, fault}
use Rattle.facet_json_token.specs.Token.{Fault}
use Rattle.facet_json_token.specs.Views.{fault_answer}
use Rattle.facet_json_token.specs.Strict.{content_fault}

-- This answers what is wrong with a content that starts there: its first byte that may not stand there.
pub record IsWrong (content : List ℕ) (start : ℕ) (answer : Option Cut) : Type 0 where
  pub what : Fault
  pub wrong : content_fault start content ≡ Some what
  pub told : answer ≡ Some (fault what)

-- Such a content is refused for that byte.
abbrev pub TellsWrong : List ℕ → ℕ → ScanError → Type 0
TellsWrong content start e = IsWrong content start (fault_answer e.span e.kind)

-- the fault of this byte at an offset
abbrev pub byte_fault : ℕ → ℕ → RustFault
byte_fault b at = record { kind = faults.UnexpectedChar b; span = record { offset = at; len = 1 } }
