-- What the text of a number stands for: the value of its digits, or with a dot or an exponent mark the text.
use Rattle.std.proofs.Common.{◌≡◌, ℕ, zero, suc, ◌+◌, ◌-◌, ◌*◌, ◌<◌, ◌≤◌, Bool, true, false, cond, List, [], ◌∷◌, ◌++◌, length, take, drop, get_or, Some, None, refl, sym, ap, ◌∙◌, subst, inl, inr, lit<, arith, length-drop}
use Rattle.std.specs.Prelude.{nat_le, ◌==◌, ◌||◌, IsUtf8}
use Rattle.std.specs.List.{list_any}
use Rattle.std.proofs.lemmas.Bool.{and_parts, or_cases, eqb-true, leb-true}
use Rattle.std.proofs.lemmas.List.{drop_more, append-nil, take_all}
use Rattle.std.proofs.lemmas.Str.{IsUtf8-nil, IsUtf8-append, IsUtf8-from_ascii}
use Rattle.facet_format.specs.Bytes.{is_digit, is_exponent_mark, is_sign, minus, plus, dot, lower_e, upper_e}
use Rattle.facet_format.specs.Number.{Hint, AreDigits, none, digit, IsMinus, IsFraction, IsExponentSign, IsExponent, hint_by, unsigned, signed, float}
use Rattle.facet_format.specs.NumberValue.{digits_value, unsigned_number, negative_number, any_digit, has_value, value_by, decimal, number}
use Rattle.facet_format.specs.NumberParts.{is_some_len, Parts, parts, minus_len, is_number}
use Rattle.facet_format.proofs.NumberLaws.{is_number-sound}

-- The byte at a place among digits is a digit.
pub digit_at : (bytes : List ℕ) (i : ℕ) → AreDigits bytes → i < length bytes → is_digit (get_or bytes i 0) ≡ true
digit_at [] i are h = absurd (omega arith)
digit_at _ zero (digit b bytes is others) h = is
digit_at _ (suc i) (digit b bytes is others) h = digit_at bytes i others (omega arith)

-- More digits never make a number smaller.
pub digits_value-grows : (n : ℕ) (bytes : List ℕ) → n ≤ digits_value n bytes
digits_value-grows n [] = omega arith
digits_value-grows n (b ∷ bytes) = omega (arith, digits_value-grows (n * 10 + (b - 0x30)) bytes)

-- The digits from a place on add one digit, and then the others.
pub digits_value-step : (n : ℕ) (bytes : List ℕ) (i : ℕ) → i < length bytes →
    digits_value n (drop i bytes) ≡ digits_value (n * 10 + (get_or bytes i 0 - 0x30)) (drop (i + 1) bytes)
digits_value-step n bytes i h = ap (digits_value n) (drop_more bytes i 0 h)

-- A digit is at least `0`.
pub digit_at-above : (bytes : List ℕ) (i : ℕ) → AreDigits bytes → i < length bytes → 0x30 ≤ get_or bytes i 0
digit_at-above bytes i are h = let is = digit_at bytes i are h in grind arith

-- What the digits up to a place spell is no more than what all of them spell.
pub digits_value-above : (n m : ℕ) (bytes : List ℕ) (i : ℕ) → i < length bytes →
    digits_value n (drop i bytes) ≡ m → n * 10 + (get_or bytes i 0 - 0x30) ≤ m
digits_value-above n m bytes i h e =
    let grows = digits_value-grows (n * 10 + (get_or bytes i 0 - 0x30)) (drop (i + 1) bytes) in
    omega (arith, digits_value-step n bytes i h)

-- Parts that leave an unsigned number are digits alone.
digits-alone : (sign digits fraction exponent : List ℕ) (m f x : Bool) → IsMinus sign m → IsFraction fraction f →
    IsExponent exponent x → unsigned ≡ hint_by m f x → sign ++ digits ++ fraction ++ exponent ≡ digits
digits-alone _ digits _ _ _ _ _ IsMinus.absent IsFraction.absent IsExponent.absent e =
    append-nil (digits ++ []) ∙ append-nil digits
digits-alone _ digits _ _ _ _ _ IsMinus.present IsFraction.absent IsExponent.absent e = cc
digits-alone _ digits _ exponent _ _ x sign (IsFraction.present _ _) last e = cc
digits-alone _ digits _ _ _ _ _ sign IsFraction.absent (IsExponent.present _ _ _ _ _ _) e = cc

-- The text of an unsigned number is digits.
pub unsigned-digits : (text : List ℕ) → is_number text unsigned ≡ true → AreDigits text
unsigned-digits text is =
    let n = (is_number-sound text unsigned is).numeral in
    let alone = digits-alone n.sign n.digits n.fraction n.exponent _ _ _ n.is_minus n.is_fraction n.is_exponent n.kind
    in
    subst AreDigits (sym (n.whole ∙ alone)) n.are_digits

-- An unsigned number is what its digits spell.
pub number-unsigned : (text : List ℕ) → is_number text unsigned ≡ true →
    number text unsigned ≡ unsigned_number (digits_value 0 text)
unfolding number
number-unsigned text is = ap (λ t. cond t (unsigned_number (digits_value 0 text)) None) is

-- Text that isn't a number with that hint has no value.
pub number-none : (text : List ℕ) (hint : Hint) → is_number text hint ≡ false → number text hint ≡ None
unfolding number
number-none text hint isnt = ap (λ t. cond t (value_by hint (parts text) text) None) isnt

-- ---- after a minus

-- Parts that leave a signed number are digits after a minus.
digits-behind : (sign digits fraction exponent : List ℕ) (m f x : Bool) → IsMinus sign m → IsFraction fraction f →
    IsExponent exponent x → signed ≡ hint_by m f x → sign ++ digits ++ fraction ++ exponent ≡ minus ∷ digits
digits-behind _ digits _ _ _ _ _ IsMinus.present IsFraction.absent IsExponent.absent e =
    append-nil (minus ∷ digits ++ []) ∙ append-nil (minus ∷ digits)
digits-behind _ digits _ _ _ _ _ IsMinus.absent IsFraction.absent IsExponent.absent e = cc
digits-behind _ digits _ exponent _ _ x sign (IsFraction.present _ _) last e = cc
digits-behind _ digits _ _ _ _ _ sign IsFraction.absent (IsExponent.present _ _ _ _ _ _) e = cc

-- What stands from a place on, taken as a range.
range_rest : (n : ℕ) (xs : List ℕ) → take (length xs - n) (drop n xs) ≡ drop n xs
range_rest n xs = take_all (length xs - n) (drop n xs) (omega (arith, length-drop n xs))

-- The text of a signed number is digits after its minus.
pub signed-digits : (text : List ℕ) (n : ℕ) → n ≡ (parts text).sign → is_number text signed ≡ true →
    AreDigits (take (length text - n) (drop n text))
unfolding parts
signed-digits text n e is =
    let m = (is_number-sound text signed is).numeral in
    let whole : text ≡ minus ∷ m.digits =
    m.whole
    ∙ digits-behind m.sign m.digits m.fraction m.exponent _ _ _ m.is_minus m.is_fraction m.is_exponent m.kind in
    let one : n ≡ 1 = e ∙ ap minus_len whole in
    let rest : drop n text ≡ m.digits = ap (λ k. drop k text) one ∙ ap (drop 1) whole in
    subst AreDigits (sym (range_rest n text ∙ rest)) m.are_digits

-- A signed number is the negative of what its digits spell.
pub number-signed : (text : List ℕ) (n : ℕ) → n ≡ (parts text).sign → is_number text signed ≡ true →
    number text signed ≡ negative_number (digits_value 0 (take (length text - n) (drop n text)))
unfolding number
number-signed text n e is =
    ap (λ t. cond t (negative_number (digits_value 0 (drop (parts text).sign text))) None) is
    ∙ ap (λ bytes. negative_number (digits_value 0 bytes)) (ap (λ k. drop k text) (sym e) ∙ sym (range_rest n text))

-- ---- with a dot or an exponent mark

-- A number with a dot or an exponent mark is its text, where that has digits enough.
number-float : (text : List ℕ) (p : Parts) → p ≡ parts text → is_number text float ≡ true →
    number text float ≡ cond (has_value p text) (Some (decimal text)) None
unfolding number
number-float text p e is =
    ap (λ t. cond t (cond (has_value (parts text) text) (Some (decimal text)) None) None) is
    ∙ ap (λ q. cond (has_value q text) (Some (decimal text)) None) (sym e)

-- A number with a dot or an exponent mark and digits enough stands for its text.
pub number-decimal : (text : List ℕ) (p : Parts) → p ≡ parts text → is_number text float ≡ true →
    has_value p text ≡ true → number text float ≡ Some (decimal text)
number-decimal text p e is has =
    number-float text p e is ∙ ap (λ t. cond t (Some (decimal text)) None) has

-- A number with a dot or an exponent mark, but too few digits, stands for nothing.
pub number-no_decimal : (text : List ℕ) (p : Parts) → p ≡ parts text → is_number text float ≡ true →
    has_value p text ≡ false → number text float ≡ None
number-no_decimal text p e is hasnt =
    number-float text p e is ∙ ap (λ t. cond t (Some (decimal text)) None) hasnt

-- Whether some byte is a digit, said by the test of lists.
any_digit-is : (bytes : List ℕ) → list_any is_digit bytes ≡ any_digit bytes
any_digit-is [] = refl
any_digit-is (b ∷ bytes) = ap (λ t. is_digit b || t) (any_digit-is bytes)

-- Where a digit stands before an exponent mark, the number has a value if one stands after it.
pub has_value-behind : (p : Parts) (text before exponent : List ℕ) →
    before ≡ take (p.sign + p.digits + p.fraction) text → exponent ≡ drop (p.sign + p.digits + p.fraction) text →
    list_any is_digit before ≡ true → is_some_len p.exponent ≡ true → list_any is_digit exponent ≡ has_value p text
has_value-behind p text before exponent b e some mark =
    let front : any_digit (take (p.sign + p.digits + p.fraction) text) ≡ true =
    sym (any_digit-is before ∙ ap any_digit b) ∙ some in
    any_digit-is exponent ∙ ap any_digit e ∙ rw (front, mark) refl

-- ---- a number's text is ASCII

-- A byte of ASCII is UTF-8.
ascii-IsUtf8 : (b : ℕ) → b < 128 → IsUtf8 (b ∷ [])
ascii-IsUtf8 b h = IsUtf8-from_ascii (b ∷ []) below
  where
    below : (i : ℕ) → get_or (b ∷ []) i 0 < 128
    below zero = h
    below (suc i) = lit< tt

-- A digit is ASCII.
digit-ascii : (b : ℕ) → is_digit b ≡ true → b < 128
digit-ascii b is = let high : b ≤ 0x39 = leb-true b 0x39 (and_parts (nat_le 0x30 b) (nat_le b 0x39) is).1 in omega arith

-- An exponent mark is ASCII.
mark-ascii : (b : ℕ) → is_exponent_mark b ≡ true → b < 128
mark-ascii b is =
    elim (or_cases (b == lower_e) (b == upper_e) is)
    [ inl h ↦ let e = eqb-true b lower_e h in omega arith | inr h ↦ let e = eqb-true b upper_e h in omega arith ]

-- A sign is ASCII.
sign-ascii : (b : ℕ) → is_sign b ≡ true → b < 128
sign-ascii b is =
    elim (or_cases (b == minus) (b == plus) is)
    [ inl h ↦ let e = eqb-true b minus h in omega arith | inr h ↦ let e = eqb-true b plus h in omega arith ]

-- Digits are UTF-8.
digits-IsUtf8 : (bytes : List ℕ) → AreDigits bytes → IsUtf8 bytes
digits-IsUtf8 _ none = IsUtf8-nil
digits-IsUtf8 _ (digit b bytes is others) =
    IsUtf8-append (b ∷ []) bytes (ascii-IsUtf8 b (digit-ascii b is)) (digits-IsUtf8 bytes others)

-- A minus or nothing is UTF-8.
minus-IsUtf8 : (bytes : List ℕ) (has : Bool) → IsMinus bytes has → IsUtf8 bytes
minus-IsUtf8 _ _ IsMinus.absent = IsUtf8-nil
minus-IsUtf8 _ _ IsMinus.present = ascii-IsUtf8 minus (lit< tt)

-- A fraction or nothing is UTF-8.
fraction-IsUtf8 : (bytes : List ℕ) (has : Bool) → IsFraction bytes has → IsUtf8 bytes
fraction-IsUtf8 _ _ IsFraction.absent = IsUtf8-nil
fraction-IsUtf8 _ _ (IsFraction.present digits are) =
    IsUtf8-append (dot ∷ []) digits (ascii-IsUtf8 dot (lit< tt)) (digits-IsUtf8 digits are)

-- The sign of an exponent, or nothing, is UTF-8.
sign-IsUtf8 : (bytes : List ℕ) → IsExponentSign bytes → IsUtf8 bytes
sign-IsUtf8 _ IsExponentSign.absent = IsUtf8-nil
sign-IsUtf8 _ (IsExponentSign.present b is) = ascii-IsUtf8 b (sign-ascii b is)

-- An exponent or nothing is UTF-8.
exponent-IsUtf8 : (bytes : List ℕ) (has : Bool) → IsExponent bytes has → IsUtf8 bytes
exponent-IsUtf8 _ _ IsExponent.absent = IsUtf8-nil
exponent-IsUtf8 _ _ (IsExponent.present mark sign digits is s d) =
    IsUtf8-append (mark ∷ sign) digits
    (IsUtf8-append (mark ∷ []) sign (ascii-IsUtf8 mark (mark-ascii mark is)) (sign-IsUtf8 sign s))
    (digits-IsUtf8 digits d)

-- A number's text is UTF-8.
pub number-IsUtf8 : (text : List ℕ) (hint : Hint) → is_number text hint ≡ true → IsUtf8 text
number-IsUtf8 text hint is =
    let n = (is_number-sound text hint is).numeral in
    let front =
    IsUtf8-append n.sign n.digits (minus-IsUtf8 n.sign n.has_minus n.is_minus) (digits-IsUtf8 n.digits n.are_digits)
    in
    let whole =
    IsUtf8-append (n.sign ++ n.digits) n.fraction front (fraction-IsUtf8 n.fraction n.has_fraction n.is_fraction) in
    subst IsUtf8 (sym n.whole)
    (IsUtf8-append (n.sign ++ n.digits ++ n.fraction) n.exponent whole
    (exponent-IsUtf8 n.exponent n.has_exponent n.is_exponent))
