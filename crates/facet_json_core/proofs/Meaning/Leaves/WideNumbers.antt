-- Whole numbers of 128 bits: which texts are such a number, and how they come back from their text.
use Rattle.std.proofs.Common.{◌≡◌, ◌≢◌, ◌<◌, ◌^◌, ℕ, suc, Bool, true, false, cond, List, ◌∷◌, get_or, Some, None, Result, Ok, Err, refl, sym, ap, ◌∙◌, subst, arith}
use Rattle.std.specs.Prelude.{ℤ, pos, negsuc, neg_ℤ, nat_lt, FitsSigned}
use Rattle.std.specs.Int.{w128}
use Rattle.std.specs.Fmt.{decimal, signed_decimal}
use Rattle.std.specs.Str.{bytes_eq}
use Rattle.std.specs.Str.Parse.{digits_value, signed_digits_value, starts_with_minus, without_leading_plus, ParsesUnsigned, ParsesSigned}
use Rattle.std.proofs.lemmas.Fmt.{decimal_is_IsNumeral_wide, parse-decimal_wide}
use Rattle.std.proofs.lemmas.Slice.Eq.{bytes_eq-Decides}
use Rattle.std.proofs.lemmas.Result.{Ok-from_Ok_iff, OkIff-at_ok}
use Rattle.std.proofs.lemmas.Str.Parse.{numerals_by_value, tells_digits, not_in_digits, without_leading_plus_none, parse_signed_minus, parse_signed_digits}
use Rattle.std.proofs.lemmas.Bool.{ltb-true, lt-ltb, ne_eqb}
use Rattle.facet_json_grammar.specs.Text.{as_array}
use Rattle.facet_json_grammar.specs.Tree.{Tree, u64, i64, u128, i128, text}
use Rattle.facet_json_grammar.specs.AsRead.{ReadsAs, u128_is_whole, i128_is_whole, FitsBits, RawParts, WellFormed}
use Rattle.facet_json_core.specs.Meaning.Laws.{ReadsBack}
use Rattle.facet_json_core.specs.Meaning.Readings.{leaf, unsigned_in, signed_in, unsigned_text, signed_text, u128_of, i128_of}
use Rattle.facet_json_core.proofs.Meaning.Leaves.LeafLaws.{leaf-back}
use Rattle.facet_json_core.proofs.Meaning.Leaves.WholeNumbers.{none-above}

-- ---- texts without a sign

unsigned-some : (n : ℕ) → n < 2 ^ 128 → unsigned_in 128 (pos n) ≡ Some n
unsigned-some n h = ap (λ b. cond b (Some n) None) (lt-ltb n (2 ^ 128) h)

-- What is written of a number is its text.
pub unsigned_text-some : (n : ℕ) → n < 2 ^ 128 → unsigned_text (decimal n) ≡ Some n
unsigned_text-some n h =
    let same : digits_value 10 (decimal n) ≡ n = (decimal_is_IsNumeral_wide n (omega (arith, h))).1 in
    let is : bytes_eq (decimal n) (decimal n) ≡ true = (bytes_eq-Decides (decimal n) (decimal n)).1 refl in
    rw same (rw is (unsigned-some n h))

-- A text that is written of no number of so many bits is none.
pub unsigned_text-none : (t : List ℕ) → ((n : ℕ) → n < 2 ^ 128 → t ≡ decimal n → ⊥) → unsigned_text t ≡ None
unsigned_text-none t never = by (bytes_eq t (decimal n)) refl (nat_lt n (2 ^ 128)) refl
  where
    n : ℕ
    n = digits_value 10 t

    by : (same : Bool) → bytes_eq t (decimal n) ≡ same → (fits : Bool) → nat_lt n (2 ^ 128) ≡ fits →
        cond same (cond fits (Some n) None) None ≡ None
    by false e fits f = refl
    by true e false f = refl
    by true e true f = absurd (never n (ltb-true n (2 ^ 128) f) ((bytes_eq-Decides t (decimal n)).0 e))

-- ---- what `parse` answers

-- Where a number is parsed and written of it is the text again, it is the number that the text is.
pub unsigned_text-parsed : {E : Type 0} (t : List ℕ) (r : Result ℕ E) (n : ℕ) → ParsesUnsigned 128 10 t r → r ≡ Ok n → decimal n ≡ t →
    unsigned_text t ≡ Some n
unsigned_text-parsed t r n parses is same =
    let p = OkIff-at_ok r _ _ n parses is in
    subst (λ u. unsigned_text u ≡ Some n) same (unsigned_text-some n (omega (arith, p.0.1, p.1)))

-- Where it is another text, the text is none.
pub unsigned_text-other : {E : Type 0} (t : List ℕ) (r : Result ℕ E) (n : ℕ) → ParsesUnsigned 128 10 t r → r ≡ Ok n →
    ¬ (decimal n ≡ t) → unsigned_text t ≡ None
unsigned_text-other t r n parses is other = unsigned_text-none t never
  where
    never : (m : ℕ) → m < 2 ^ 128 → t ≡ decimal m → ⊥
    never m h e =
        let both : Ok n ≡ Ok m = sym is ∙ parse-decimal_wide 128 m t r h (omega (arith, h)) e parses in
        let same : n ≡ m = cc in
        other (ap decimal same ∙ sym e)

-- Where none is parsed, the text is none.
pub unsigned_text-unparsed : {E : Type 0} (t : List ℕ) (r : Result ℕ E) (e : E) → ParsesUnsigned 128 10 t r → r ≡ Err e → unsigned_text t ≡ None
unsigned_text-unparsed t r e parses is = unsigned_text-none t never
  where
    never : (m : ℕ) → m < 2 ^ 128 → t ≡ decimal m → ⊥
    never m h same =
        let both : Err e ≡ Ok m = sym is ∙ parse-decimal_wide 128 m t r h (omega (arith, h)) same parses in cc

-- ---- texts with a sign

-- What `parse` answers at what is written of a number.
parse-signed_wide : {E : Type 0} (z : ℤ) (t : List ℕ) (r : Result ℤ E) → FitsBits 127 z → t ≡ signed_decimal z → ParsesSigned w128 10 t r → r ≡ Ok z
parse-signed_wide (pos n) t r fits is parses =
    let k = decimal_is_IsNumeral_wide n (omega (arith, fits)) in
    let read = parse_signed_digits (numerals_by_value _ tells_digits) w128 (decimal n) r (subst (λ l. ParsesSigned w128 10 l r) is parses) k.0.1 in
    Ok-from_Ok_iff r _ _ read (k.0.0, omega (arith, k.1, fits)) ∙ ap (λ m. Ok (pos m)) k.1
parse-signed_wide (negsuc n) t r fits is parses =
    let k = decimal_is_IsNumeral_wide (suc n) (omega (arith, fits)) in
    let read = parse_signed_minus (numerals_by_value _ tells_digits) w128 (45 ∷ decimal (suc n)) r (subst (λ l. ParsesSigned w128 10 l r) is parses) refl in
    Ok-from_Ok_iff r _ _ read (k.0.1, k.0.0, omega (arith, k.1, fits)) ∙ ap (λ m. Ok (neg_ℤ (pos m))) k.1

-- A number of so many bits is within them.
pub wide-within : (z : ℤ) → FitsSigned w128 z → FitsBits 127 z
wide-within (pos n) fits = fits.sfits
wide-within (negsuc n) fits = fits.sfits

signed-some : (z : ℤ) → FitsBits 127 z → signed_in 127 z ≡ Some z
signed-some (pos n) h = ap (λ b. cond b (Some (pos n)) None) (lt-ltb n (2 ^ 127) h)
signed-some (negsuc n) h = ap (λ b. cond b (Some (negsuc n)) None) (lt-ltb n (2 ^ 127) h)

-- What is written of a number spells it.
signed-value : (z : ℤ) → FitsBits 127 z → signed_digits_value 10 (signed_decimal z) ≡ z
signed-value (pos n) h =
    let k = decimal_is_IsNumeral_wide n (omega (arith, h)) in
    let no : (c : ℕ) → c < 48 → get_or (decimal n) 0 0 ≢ c =
    λ c l. not_in_digits (numerals_by_value _ tells_digits) (decimal n) c k.0.1 (λ r. omega (arith, r.0, l)) 0 k.0.0 in
    let minus : starts_with_minus (decimal n) ≡ false = ne_eqb _ 45 (no 45 (omega arith)) in
    let plus : without_leading_plus (decimal n) ≡ decimal n = without_leading_plus_none (decimal n) (no 43 (omega arith)) in
    rw minus (ap (λ l. pos (digits_value 10 l)) plus ∙ ap pos k.1)
signed-value (negsuc n) h = ap (λ m. neg_ℤ (pos m)) (decimal_is_IsNumeral_wide (suc n) (omega (arith, h))).1

-- What is written of a number is its text.
pub signed_text-some : (z : ℤ) → FitsBits 127 z → signed_text (signed_decimal z) ≡ Some z
signed_text-some z h =
    let is : bytes_eq (signed_decimal z) (signed_decimal z) ≡ true = (bytes_eq-Decides (signed_decimal z) (signed_decimal z)).1 refl in
    rw (signed-value z h) (rw is (signed-some z h))

-- A number of more bits is none.
signed-by : (z : ℤ) → (FitsBits 127 z → ⊥) → signed_in 127 z ≡ None
signed-by (pos n) never = none-above n (2 ^ 127) (pos n) never
signed-by (negsuc n) never = none-above n (2 ^ 127) (negsuc n) never

-- A text that is written of no number of so many bits is none.
pub signed_text-none : (t : List ℕ) → ((z : ℤ) → FitsBits 127 z → t ≡ signed_decimal z → ⊥) → signed_text t ≡ None
signed_text-none t never = by (bytes_eq t (signed_decimal z)) refl
  where
    z : ℤ
    z = signed_digits_value 10 t

    by : (same : Bool) → bytes_eq t (signed_decimal z) ≡ same → cond same (signed_in 127 z) None ≡ None
    by false e = refl
    by true e = signed-by z (λ h. never z h ((bytes_eq-Decides t (signed_decimal z)).0 e))

-- Where none is parsed, the text is none.
pub signed_text-unparsed : {E : Type 0} (t : List ℕ) (r : Result ℤ E) (e : E) → ParsesSigned w128 10 t r → r ≡ Err e → signed_text t ≡ None
signed_text-unparsed t r e parses is = signed_text-none t never
  where
    never : (y : ℤ) → FitsBits 127 y → t ≡ signed_decimal y → ⊥
    never y h same =
        let both : Err e ≡ Ok y = sym is ∙ parse-signed_wide y t r h same parses in cc

-- ---- back from the text

as_read-u128 : (n : ℕ) (read : Tree) → n < 2 ^ 128 → ReadsAs as_array (u128 n) read → u128_of read ≡ Some n
as_read-u128 n _ h (u128_is_whole _) = by (nat_lt n (2 ^ 64))
  where
    by : (small : Bool) → u128_of (cond small (u64 n) (text (decimal n))) ≡ Some n
    by true = unsigned-some n h
    by false = unsigned_text-some n h

pub u128-reads_back : ReadsBack (leaf u128_of) u128 (λ (n : ℕ). n < 2 ^ 128) (λ (n : ℕ). Unit {0})
unfolding WellFormed RawParts
u128-reads_back n h readable = leaf-back u128_of (λ ts. refl) (λ ps. refl) n (u128 n) h tt (λ read how. as_read-u128 n read h how)

as_read-i128 : (z : ℤ) (read : Tree) → FitsBits 127 z → ReadsAs as_array (i128 z) read → i128_of read ≡ Some z
as_read-i128 (pos n) _ h (i128_is_whole _) = by (nat_lt n (2 ^ 64))
  where
    by : (small : Bool) → i128_of (cond small (u64 n) (text (decimal n))) ≡ Some (pos n)
    by true = signed-some (pos n) h
    by false = signed_text-some (pos n) h
as_read-i128 (negsuc n) _ h (i128_is_whole _) = by (nat_lt n (2 ^ 63))
  where
    by : (small : Bool) → i128_of (cond small (i64 (negsuc n)) (text (signed_decimal (negsuc n)))) ≡ Some (negsuc n)
    by true = signed-some (negsuc n) h
    by false = signed_text-some (negsuc n) h

pub i128-reads_back : ReadsBack (leaf i128_of) i128 (λ (z : ℤ). FitsBits 127 z) (λ (z : ℤ). Unit {0})
unfolding WellFormed RawParts
i128-reads_back z h readable = leaf-back i128_of (λ ts. refl) (λ ps. refl) z (i128 z) h tt (λ read how. as_read-i128 z read h how)
