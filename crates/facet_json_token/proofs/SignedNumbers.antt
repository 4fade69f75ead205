-- Numbers that are digits after a minus.
use Rattle.std.proofs.Common.{◌≡◌, ℕ, zero, suc, ◌<◌, Bool, true, false, List, refl, arith}
use Rattle.facet_format.specs.Number.{signed, hint_by}
use Rattle.facet_format.specs.NumberParts.{is_some_len, parts, is_number}
use Rattle.facet_format.proofs.NumberLaws.{is_number-sound, parts_hint-is}
use Rattle.facet_json_token.proofs.NumberCuts.{sign-bound}

-- A minus stands in a signed number.
with_minus : (m f x : Bool) → hint_by m f x ≡ signed → m ≡ true
with_minus true f x e = refl
with_minus false true x e = cc
with_minus false false true e = cc
with_minus false false false e = cc

some-above : (n : ℕ) → is_some_len n ≡ true → 0 < n
some-above zero e = cc
some-above (suc n) e = omega arith

-- Its sign is one byte.
pub signed-sign : (text : List ℕ) → is_number text signed ≡ true → 1 ≡ (parts text).sign
signed-sign text is =
    let p = parts text in
    let has = with_minus (is_some_len p.sign) (is_some_len p.fraction) (is_some_len p.exponent) (parts_hint-is text signed (is_number-sound text signed is).numeral) in
    omega (arith, some-above p.sign has, sign-bound text)
