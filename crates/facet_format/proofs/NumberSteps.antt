-- The parts of a number from the offsets where they end.
use Rattle.std.proofs.Common.{◌≡◌, ℕ, suc, ◌+◌, ◌-◌, Bool, true, false, not, cond, List, [], ◌∷◌, drop, refl, ap, sym, ◌∙◌, arith}
use Rattle.std.proofs.lemmas.List.{drop-drop}
use Rattle.std.specs.List.{prefix_len}
use Rattle.facet_format.specs.Bytes.{is_digit}
use Rattle.facet_format.specs.Inner.Window.{is_no_digit}
use Rattle.facet_format.specs.NumberParts.{minus_len, digits_len, fraction_len, exponent_len, Parts, parts}

digit-step : (v : Bool) (n k : ℕ) → n ≡ k → cond v (suc n) 0 ≡ cond (not (not v)) (1 + k) 0
digit-step true n k e = omega arith
digit-step false n k e = refl

-- digits are a run of bytes that don't end it
pub digits-run : (bytes : List ℕ) → digits_len bytes ≡ prefix_len (λ b. not (is_no_digit b)) bytes
digits-run [] = refl
digits-run (b ∷ bytes) = digit-step (is_digit b) (digits_len bytes) _ (digits-run bytes)

-- The parts of what stands at `at` end at these offsets.
pub record PartsEnd (p : Parts) (at digits fraction exponent end : ℕ) : Type 0 where
  pub sign_ends : digits ≡ at + p.sign
  pub digits_end : fraction ≡ digits + p.digits
  pub fraction_ends : exponent ≡ fraction + p.fraction
  pub exponent_ends : end ≡ exponent + p.exponent

-- a part after a prefix of what stands at an offset
part-behind : (len : List ℕ → ℕ) (buffer : List ℕ) (at front from to : ℕ) → from ≡ at + front →
    to ≡ from + len (drop from buffer) → to ≡ from + len (drop front (drop at buffer))
part-behind len buffer at front from to e h =
    h ∙ ap (λ n. from + len (drop n buffer)) e ∙ ap (λ l. from + len l) (sym (drop-drop front at buffer))

-- where each part is cut at the end of the one before
pub PartsEnd-parts : (buffer : List ℕ) (at digits fraction exponent end : ℕ) →
    digits ≡ at + minus_len (drop at buffer) → fraction ≡ digits + digits_len (drop digits buffer) →
    exponent ≡ fraction + fraction_len (drop fraction buffer) → end ≡ exponent + exponent_len (drop exponent buffer) →
    PartsEnd (parts (drop at buffer)) at digits fraction exponent end
unfolding parts
PartsEnd-parts buffer at digits fraction exponent end e1 e2 e3 e4 =
    let p = parts (drop at buffer) in
    let d : fraction ≡ digits + p.digits = part-behind digits_len buffer at p.sign digits fraction e1 e2 in
    let f : exponent ≡ fraction + p.fraction =
    part-behind fraction_len buffer at (p.sign + p.digits) fraction exponent (omega arith) e3 in
    record {
      sign_ends = e1;
      digits_end = d;
      fraction_ends = f;
      exponent_ends = part-behind exponent_len buffer at (p.sign + p.digits + p.fraction) exponent end (omega arith) e4;
    }

-- each part is as long as its ends are apart
pub PartsEnd-lengths : (p : Parts) (at digits fraction exponent end : ℕ) → PartsEnd p at digits fraction exponent end →
    record { sign = digits - at; digits = fraction - digits; fraction = exponent - fraction; exponent = end - exponent }
    ≡ p
PartsEnd-lengths p at digits fraction exponent end h =
    let s : digits - at ≡ p.sign = omega arith in
    let d : fraction - digits ≡ p.digits = omega arith in
    let f : exponent - fraction ≡ p.fraction = omega arith in
    let e : end - exponent ≡ p.exponent = omega arith in
    rw (s, d, f, e) refl
