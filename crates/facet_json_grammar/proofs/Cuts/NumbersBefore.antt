-- A number is measured alike where bytes follow that do not go on with it.
use Rattle.std.proofs.Common.{◌≡◌, ℕ, suc, ◌+◌, ◌≤◌, true, false, cond, ◌==◌, ◌||◌, List, [], ◌∷◌, ◌++◌, length, drop, refl, ap, ◌∙◌, arith}
use Rattle.std.proofs.lemmas.Bool.{not-true, or_parts}
use Rattle.std.proofs.lemmas.List.{drop-append-le}
use Rattle.facet_format.specs.Bytes.{is_digit, is_exponent_mark, is_sign, minus, dot}
use Rattle.facet_format.specs.NumberParts.{digits_len, minus_len, fraction_len, sign_len, exponent_len, parts}
use Rattle.facet_format.proofs.NumberPrefixes.{sign_len-bound, parts_len-bound, power_len, from_sign, from_digits, from_fraction, from_exponent}
use Rattle.facet_json_grammar.proofs.Scalars.OneToken.{ends_number}

-- ---- bytes that do not go on with a number begin with none of its parts

-- The byte is no digit, dot, exponent mark or sign.
record IsNoPart (b : ℕ) : Type 0 where
  no_digit : is_digit b ≡ false
  no_dot : (b == dot) ≡ false
  no_mark : is_exponent_mark b ≡ false
  no_sign : is_sign b ≡ false

no_part : (b : ℕ) (bytes : List ℕ) → ends_number (b ∷ bytes) ≡ true → IsNoPart b
no_part b bytes e =
    let all = or_parts (is_digit b || (b == dot) || is_exponent_mark b) (is_sign b) (not-true _ e) in
    let three = or_parts (is_digit b || (b == dot)) (is_exponent_mark b) all.0 in
    let two = or_parts (is_digit b) (b == dot) three.0 in
    record { no_digit = two.0; no_dot = two.1; no_mark = three.1; no_sign = all.1 }

-- The measure is the same with bytes after it that do not go on with a number.
abbrev StaysBefore : (List ℕ → ℕ) → Type 0
StaysBefore measure = (bytes after : List ℕ) → ends_number after ≡ true → measure (bytes ++ after) ≡ measure bytes

-- Also after a first part within the bytes.
stays_past : (measure : List ℕ → ℕ) → StaysBefore measure → (n : ℕ) (bytes after : List ℕ) → n ≤ length bytes →
    ends_number after ≡ true → measure (drop n (bytes ++ after)) ≡ measure (drop n bytes)
stays_past measure stays n bytes after h e = ap measure (drop-append-le n bytes after h) ∙ stays (drop n bytes) after e

digits_len-stays : StaysBefore digits_len
digits_len-stays [] [] e = refl
digits_len-stays [] (b ∷ after) e = rw ((no_part b after e).no_digit)
digits_len-stays (b ∷ bytes) after e = ap (λ n. cond (is_digit b) (suc n) 0) (digits_len-stays bytes after e)

minus_len-stays : StaysBefore minus_len
minus_len-stays [] [] e = refl
minus_len-stays [] (b ∷ after) e =
    rw ((or_parts (b == minus) _ (no_part b after e).no_sign).0)
minus_len-stays (b ∷ bytes) after e = refl

sign_len-stays : StaysBefore sign_len
sign_len-stays [] [] e = refl
sign_len-stays [] (b ∷ after) e = rw ((no_part b after e).no_sign)
sign_len-stays (b ∷ bytes) after e = refl

fraction_len-stays : StaysBefore fraction_len
fraction_len-stays [] [] e = refl
fraction_len-stays [] (b ∷ after) e = rw ((no_part b after e).no_dot)
fraction_len-stays (b ∷ bytes) after e = ap (λ n. cond (b == dot) (suc n) 0) (digits_len-stays bytes after e)

power_len-stays : StaysBefore power_len
power_len-stays bytes after e =
    ap (λ n. n + digits_len (drop n (bytes ++ after))) (sign_len-stays bytes after e)
    ∙ ap (λ n. sign_len bytes + n)
    (stays_past digits_len digits_len-stays (sign_len bytes) bytes after (sign_len-bound bytes) e)

exponent_len-stays : StaysBefore exponent_len
exponent_len-stays [] [] e = refl
exponent_len-stays [] (b ∷ after) e = rw ((no_part b after e).no_mark)
exponent_len-stays (b ∷ bytes) after e = ap (λ n. cond (is_exponent_mark b) (suc n) 0) (power_len-stays bytes after e)

-- ---- all parts

-- A number has the same parts before bytes that do not go on with it.
pub parts-stay : (bytes after : List ℕ) → ends_number after ≡ true → parts (bytes ++ after) ≡ parts bytes
unfolding parts
parts-stay bytes after e =
    let s = minus_len bytes in
    let d = digits_len (drop s bytes) in
    let f = fraction_len (drop (s + d) bytes) in
    let bound : s + d + f + exponent_len (drop (s + d + f) bytes) ≤ length bytes = parts_len-bound bytes in
    let all = bytes ++ after in
    ap (from_sign all) (minus_len-stays bytes after e)
    ∙ ap (from_digits all s) (stays_past digits_len digits_len-stays s bytes after (omega arith) e)
    ∙ ap (from_fraction all s d) (stays_past fraction_len fraction_len-stays (s + d) bytes after (omega arith) e)
    ∙ ap (from_exponent s d f) (stays_past exponent_len exponent_len-stays (s + d + f) bytes after (omega arith) e)
