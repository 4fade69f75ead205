-- Digits, a dot and digits, perhaps after a minus, with no exponent after them are a decimal.
use Rattle.std.proofs.Common.{◌≡◌, ◌≢◌, ℕ, suc, ◌+◌, ◌-◌, ◌<◌, Bool, true, false, cond, List, ◌∷◌, length, drop, get_or, slice_get, Some, refl, sym, ap, ◌∙◌, arith}
use Rattle.std.proofs.lemmas.Bool.{ne_eqb}
use Rattle.std.proofs.lemmas.List.{drop-drop, drop_more}
use Rattle.std.proofs.lemmas.Option.{slice_get_within}
use Rattle.facet_format.specs.Bytes.{minus, dot, is_exponent_mark}
use Rattle.facet_format.specs.Number.{float, hint_by}
use Rattle.facet_format.specs.NumberParts.{Parts, is_some_len, minus_len, digits_len, sign_len, fraction_len, exponent_len, parts, parts_len, is_bare}
use Rattle.facet_format.proofs.NumberSteps.{PartsEnd-parts, PartsEnd-lengths}
use Rattle.facet_json_token.specs.Cut.{cut_here, opens_number, start_of, token_at}
use Rattle.facet_json_token.specs.Gap.{Mode, plain}
use Rattle.facet_json_token.specs.Token.{number}
use Rattle.facet_json_token.proofs.Offsets.{drop-at_byte}
use Rattle.facet_json_token.proofs.Starts.{start_of-number}
use Rattle.facet_json_reader.proofs.TokensThere.{there-fits, number-cut}
use Rattle.facet_json_reader.specs.Inner.Short.{IsDecimalThere, IsPointed}

-- Digits, a dot, digits, and a byte that begins no exponent.
pub pointed : (buffer : List ℕ) (at n m : ℕ) → n ≡ digits_len (drop at buffer) → get_or buffer (at + n) 0 ≡ dot → m ≡ digits_len (drop (at + n + 1) buffer) →
    at + n + 1 + m < length buffer → is_exponent_mark (get_or buffer (at + n + 1 + m) 0) ≡ false → IsPointed (drop at buffer) (n + 1 + m)
pointed buffer at n m whole point more room other =
    let rest = drop (at + n + 1) buffer in
    let here : drop n (drop at buffer) ≡ get_or buffer (at + n) 0 ∷ rest = drop-drop n at buffer ∙ drop_more buffer (at + n) 0 (omega arith) in
    let mark = is_exponent_mark (get_or buffer (at + n + 1 + m) 0) in
    let beyond = drop (at + n + 1 + m + 1) buffer in
    let end : at + (n + suc m) ≡ at + n + 1 + m = omega arith in
    let after : drop (n + suc m) (drop at buffer) ≡ get_or buffer (at + n + 1 + m) 0 ∷ beyond =
    drop-drop (n + suc m) at buffer ∙ ap (λ k. drop k buffer) end ∙ drop_more buffer (at + n + 1 + m) 0 room in
    record {
      digits = n;
      more = m;
      whole = whole;
      fraction = ap suc more ∙ sym (ap fraction_len here ∙ rw point refl);
      no_exponent = ap exponent_len after ∙ ap (λ t. cond t (suc (sign_len beyond + digits_len (drop (sign_len beyond) beyond))) 0) other;
      all = omega arith;
    }

hint-pointed : (signed : Bool) → float ≡ hint_by signed true false
hint-pointed true = refl
hint-pointed false = refl

module _ (buffer : List ℕ) (at b s start len n : ℕ) (here : slice_get buffer at ≡ Some b) (begins : start_of b ≡ opens_number) (from : start ≡ at + s)
    (long : len ≡ s + n) (sign : s ≡ minus_len (drop at buffer)) (w : IsPointed (drop start buffer) n) where
  -- the parts of such a number
  abbrev q : Parts
  q = record { sign = s; digits = w.digits; fraction = suc w.more; exponent = 0 }

  same : q ≡ parts (drop at buffer)
  same =
      let point = start + w.digits in
      let end = point + suc w.more in
      let behind : start + (w.digits + suc w.more) ≡ end = omega arith in
      let beyond : drop w.digits (drop start buffer) ≡ drop point buffer = drop-drop w.digits start buffer in
      let after : drop (w.digits + suc w.more) (drop start buffer) ≡ drop end buffer =
      drop-drop (w.digits + suc w.more) start buffer ∙ ap (λ k. drop k buffer) behind in
      let fraction : end ≡ point + fraction_len (drop point buffer) = omega (arith, ap fraction_len beyond, w.fraction) in
      let no_exponent : end ≡ end + exponent_len (drop end buffer) = omega (arith, ap exponent_len after, w.no_exponent) in
      let minus_ends : start ≡ at + minus_len (drop at buffer) = omega (arith, from, sign) in
      let ends = PartsEnd-parts buffer at start point end end minus_ends (ap (λ k. start + k) w.whole) fraction no_exponent in
      let one : start - at ≡ s = omega (arith, from) in
      let two : point - start ≡ w.digits = omega arith in
      let three : end - point ≡ suc w.more = omega arith in
      let none : end - end ≡ 0 = omega arith in
      rw (one, two, three, none) at (PartsEnd-lengths (parts (drop at buffer)) at start point end end ends)

  pub pointed-there : IsDecimalThere buffer at len
  pointed-there =
      let all : len ≡ parts_len q = omega (arith, long, w.all) in
      let more : is_bare q ≡ false = ne_eqb (parts_len q) s (λ (e : s + w.digits + suc w.more + 0 ≡ s). omega (arith, e)) in
      let cut : (mode : Mode) → cut_here mode at (drop at buffer) ≡ token_at (number at (at + len) float) at len =
      λ mode. number-cut mode buffer at b len q float here begins same all (hint-pointed (is_some_len s)) more in
      let fits = there-fits plain buffer at len _ (omega (arith, slice_get_within buffer at b here)) (cut plain) in
      record { cut = cut; decimal = fits.kind_fits.is_a_number; within = omega (arith, fits.within) }

-- Without a minus, and after one.
pub unsigned-pointed : (buffer : List ℕ) (at b len : ℕ) → slice_get buffer at ≡ Some b → start_of b ≡ opens_number → b ≢ minus →
    IsPointed (drop at buffer) len → IsDecimalThere buffer at len
unsigned-pointed buffer at b len here begins other w =
    let no_sign : 0 ≡ minus_len (drop at buffer) =
    sym (ap minus_len (drop-at_byte buffer at b here) ∙ ap (λ t. cond t 1 0) (ne_eqb b minus other)) in
    pointed-there buffer at b 0 at len len here begins (omega arith) (omega arith) no_sign w

pub signed-pointed : (buffer : List ℕ) (at len : ℕ) → slice_get buffer at ≡ Some minus → IsPointed (drop (at + 1) buffer) len →
    IsDecimalThere buffer at (len + 1)
signed-pointed buffer at len here w =
    let sign : 1 ≡ minus_len (drop at buffer) = sym (ap minus_len (drop-at_byte buffer at minus here)) in
    pointed-there buffer at minus 1 (at + 1) (len + 1) len here (start_of-number minus refl) refl (omega arith) sign w
