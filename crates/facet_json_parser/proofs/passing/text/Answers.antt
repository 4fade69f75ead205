use Rattle.std.specs.Prelude.{Bool, true, false}
use Rattle.std.specs.Str.{is_utf8, IsUtf8}
use Rattle.std.proofs.Common.{◌≡◌, List, ℕ, refl}
use Rattle.std.proofs.lemmas.Str.{IsUtf8-from_is_utf8, is_utf8-from_IsUtf8}
use Rattle.facet_json_parser.proofs.passing.text.Goals as goal

-- What is not UTF-8 does not pass the test.
test_fails : (bytes : List ℕ) (b : Bool) → is_utf8 bytes ≡ b → (IsUtf8 bytes → ⊥) → b ≡ false
test_fails bytes true e none = absurd (none (IsUtf8-from_is_utf8 bytes e))
test_fails bytes false e none = refl

pub returns-in-Ok : goal.returns-in-Ok
returns-in-Ok c = let cases = c.in-Ok.ensures.cases in (cases.0, is_utf8-from_IsUtf8 _ cases.1)

pub returns-in-Err : goal.returns-in-Err
returns-in-Err c = (test_fails _ _ refl c.in-Err.ensures.cases.0, c.no_raw.ensures)
