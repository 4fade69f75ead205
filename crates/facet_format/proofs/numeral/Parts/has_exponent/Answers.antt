use Rattle.std.proofs.Common.{◌≡◌, ℕ, zero, suc, refl, ap, ◌∙◌, arith}
use Rattle.std.specs.Prelude.{not, ◌==◌}
use Rattle.facet_format.specs.NumberParts.{is_some_len}
use Rattle.facet_format.proofs.numeral.Parts.has_exponent.Goals as goal

-- A part stands there where its length is not 0.
some-len : (n : ℕ) → not (n == 0) ≡ is_some_len n
some-len zero = refl
some-len (suc n) = grind arith

pub returns : goal.returns
returns c = some-len c.self.inside.exponent ∙ ap (λ p. is_some_len p.exponent) c.self.view_is
