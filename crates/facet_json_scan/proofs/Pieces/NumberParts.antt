-- In which part a number ends: what one byte more makes of it.
use Rattle.std.proofs.Common.{◌≡◌, ◌≢◌, ℕ, suc, Bool, true, false, ◌==◌, List, [], ◌∷◌, ◌++◌, length, refl, sym, ap, ◌∙◌, subst, arith, append_assoc, length-append, ◌<◌}
use Rattle.std.proofs.lemmas.Bool.{eqb-true}
use Rattle.std.proofs.lemmas.List.{append-nil}
use Rattle.facet_format.specs.Bytes.{is_digit, is_exponent_mark, is_sign, dot}
use Rattle.facet_format.specs.Number.{Hint, AreDigits, IsFraction, IsExponentSign, IsExponent, hint_by, IsNumeral}
use Rattle.facet_format.specs.NumberParts.{digits_len, fraction_len, exponent_len, parts}
use Rattle.facet_json_scan.specs.Scanner.{NumberPart, in_digits, in_fraction, at_mark, in_exponent, last_part, EndsIn, ExtendsWith, EndsBefore}
use Rattle.facet_format.proofs.NumberPrefixes.{power_len}
use Rattle.facet_format.proofs.NumberLaws.{parts-is, parts-by, mark_no_digit, mark_no_dot, digits_len-append, digit_no_sign}

-- ---- what stands in the last part

-- After digits stands neither a fraction nor an exponent.
pub last-digits : (fraction exponent : List ℕ) → in_digits ≡ last_part fraction exponent →
    (fraction ≡ []) × (exponent ≡ [])
last-digits [] [] e = (refl, refl)
last-digits (b ∷ fraction) [] e = cc
last-digits [] (m ∷ []) e = cc
last-digits (b ∷ fraction) (m ∷ []) e = cc
last-digits [] (m ∷ b ∷ power) e = cc
last-digits (a ∷ fraction) (m ∷ b ∷ power) e = cc

-- After a fraction stands no exponent.
last-fraction : (fraction exponent : List ℕ) → in_fraction ≡ last_part fraction exponent →
    (fraction ≢ []) × (exponent ≡ [])
last-fraction [] [] e = cc
last-fraction (b ∷ fraction) [] e = (λ n. cc, refl)
last-fraction [] (m ∷ []) e = cc
last-fraction (b ∷ fraction) (m ∷ []) e = cc
last-fraction [] (m ∷ b ∷ power) e = cc
last-fraction (a ∷ fraction) (m ∷ b ∷ power) e = cc

-- An exponent mark is an exponent of one byte.
last-mark : (fraction exponent : List ℕ) → at_mark ≡ last_part fraction exponent → length exponent ≡ 1
last-mark [] [] e = cc
last-mark (b ∷ fraction) [] e = cc
last-mark [] (m ∷ []) e = refl
last-mark (b ∷ fraction) (m ∷ []) e = refl
last-mark [] (m ∷ b ∷ power) e = cc
last-mark (a ∷ fraction) (m ∷ b ∷ power) e = cc

-- With a sign or digits it has more.
last-exponent : (fraction exponent : List ℕ) → in_exponent ≡ last_part fraction exponent → 1 < length exponent
last-exponent [] [] e = cc
last-exponent (b ∷ fraction) [] e = cc
last-exponent [] (m ∷ []) e = cc
last-exponent (b ∷ fraction) (m ∷ []) e = cc
last-exponent [] (m ∷ b ∷ power) e = omega arith
last-exponent (a ∷ fraction) (m ∷ b ∷ power) e = omega arith

-- A fraction alone is the last part.
fraction-last : (fraction : List ℕ) (b : ℕ) → in_fraction ≡ last_part (fraction ++ b ∷ []) []
fraction-last [] b = refl
fraction-last (a ∷ fraction) b = refl

-- A mark alone is the last part.
mark-last : (fraction : List ℕ) (m : ℕ) → at_mark ≡ last_part fraction (m ∷ [])
mark-last [] m = refl
mark-last (b ∷ fraction) m = refl

-- A byte after the mark stands in the exponent.
exponent-last : (fraction exponent : List ℕ) (b : ℕ) → exponent ≢ [] →
    in_exponent ≡ last_part fraction (exponent ++ b ∷ [])
exponent-last fraction [] b some = absurd (some refl)
exponent-last [] (m ∷ []) b some = refl
exponent-last (a ∷ fraction) (m ∷ []) b some = refl
exponent-last [] (m ∷ c ∷ power) b some = refl
exponent-last (a ∷ fraction) (m ∷ c ∷ power) b some = refl

-- ---- a part with one byte more

digits-byte : (digits : List ℕ) (b : ℕ) → AreDigits digits → is_digit b ≡ true → AreDigits (digits ++ b ∷ [])
digits-byte _ b AreDigits.none e = AreDigits.digit b [] e AreDigits.none
digits-byte _ b (AreDigits.digit a bytes h d) e = AreDigits.digit a _ h (digits-byte bytes b d e)

-- A dot begins a fraction.
fraction-dot : (b : ℕ) → (b == dot) ≡ true → IsFraction (b ∷ []) true
fraction-dot b e = subst (λ x. IsFraction (x ∷ []) true) (sym (eqb-true b dot e)) (IsFraction.present [] AreDigits.none)

fraction-digit : (fraction : List ℕ) (has : Bool) (b : ℕ) → IsFraction fraction has → fraction ≢ [] →
    is_digit b ≡ true → IsFraction (fraction ++ b ∷ []) true
fraction-digit _ _ b IsFraction.absent some e = absurd (some refl)
fraction-digit _ _ b (IsFraction.present digits d) some e = IsFraction.present _ (digits-byte digits b d e)

-- A mark begins an exponent.
exponent-mark : (b : ℕ) → is_exponent_mark b ≡ true → IsExponent (b ∷ []) true
exponent-mark b e = IsExponent.present b [] [] e IsExponentSign.absent AreDigits.none

exponent-sign : (exponent : List ℕ) (has : Bool) (b : ℕ) → IsExponent exponent has → length exponent ≡ 1 →
    is_sign b ≡ true → IsExponent (exponent ++ b ∷ []) true
exponent-sign _ _ b IsExponent.absent one e = cc
exponent-sign _ _ b (IsExponent.present mark [] [] m s d) one e =
    IsExponent.present mark (b ∷ []) [] m (IsExponentSign.present b e) AreDigits.none
exponent-sign _ _ b (IsExponent.present mark [] (c ∷ digits) m s d) one e = absurd (omega (arith, one))
exponent-sign _ _ b (IsExponent.present mark (c ∷ sign) digits m s d) one e = absurd (omega (arith, one))

exponent-digit : (exponent : List ℕ) (has : Bool) (b : ℕ) → IsExponent exponent has → exponent ≢ [] →
    is_digit b ≡ true → IsExponent (exponent ++ b ∷ []) true
exponent-digit _ _ b IsExponent.absent some e = absurd (some refl)
exponent-digit _ _ b (IsExponent.present mark sign digits m s d) some e =
    subst (λ l. IsExponent (mark ∷ l) true) (sym (append_assoc sign digits (b ∷ [])))
    (IsExponent.present mark sign (digits ++ b ∷ []) m s (digits-byte digits b d e))

-- ---- a number with one byte more

-- The digits go on.
digits-grow : (text : List ℕ) (b : ℕ) → EndsIn in_digits text → is_digit b ≡ true → EndsIn in_digits (text ++ b ∷ [])
digits-grow text b i e =
    let n = i.numeral in
    let none = last-digits n.fraction n.exponent i.last in
    let alone : text ≡ n.sign ++ n.digits =
    n.whole ∙ ap (λ l. n.sign ++ n.digits ++ n.fraction ++ l) none.1
    ∙ append-nil (n.sign ++ n.digits ++ n.fraction) ∙ ap (λ l. n.sign ++ n.digits ++ l) none.0
    ∙ append-nil (n.sign ++ n.digits) in
    let more : text ++ b ∷ [] ≡ n.sign ++ (n.digits ++ b ∷ []) =
    ap (λ l. l ++ b ∷ []) alone ∙ append_assoc n.sign n.digits (b ∷ []) in
    let numeral : IsNumeral (text ++ b ∷ []) (hint_by n.has_minus false false) =
    record {
      sign = n.sign;
      digits = n.digits ++ b ∷ [];
      fraction = [];
      exponent = [];
      has_minus = n.has_minus;
      has_fraction = false;
      has_exponent = false;
      is_minus = n.is_minus;
      are_digits = digits-byte n.digits b n.are_digits e;
      is_fraction = IsFraction.absent;
      is_exponent = IsExponent.absent;
      whole =
          more ∙ sym (append-nil (n.sign ++ (n.digits ++ b ∷ [])))
          ∙ sym (append-nil (n.sign ++ (n.digits ++ b ∷ []) ++ []));
      starts = λ z. omega (arith, ap length (more ∙ z), length-append text (b ∷ []));
      kind = refl;
    } in
    record { hint = hint_by n.has_minus false false; numeral = numeral; last = refl }

-- The fraction begins or goes on.
fraction-grows : (text : List ℕ) (b : ℕ) (hint : Hint) (n : IsNumeral text hint) → n.exponent ≡ [] →
    IsFraction (n.fraction ++ b ∷ []) true → EndsIn in_fraction (text ++ b ∷ [])
fraction-grows text b hint n none grown =
    let front = n.sign ++ n.digits in
    let alone : text ≡ front ++ n.fraction =
    n.whole ∙ ap (λ l. front ++ n.fraction ++ l) none ∙ append-nil (front ++ n.fraction) in
    let more : text ++ b ∷ [] ≡ front ++ (n.fraction ++ b ∷ []) =
    ap (λ l. l ++ b ∷ []) alone ∙ append_assoc front n.fraction (b ∷ []) in
    let numeral : IsNumeral (text ++ b ∷ []) (hint_by n.has_minus true false) =
    record {
      sign = n.sign;
      digits = n.digits;
      fraction = n.fraction ++ b ∷ [];
      exponent = [];
      has_minus = n.has_minus;
      has_fraction = true;
      has_exponent = false;
      is_minus = n.is_minus;
      are_digits = n.are_digits;
      is_fraction = grown;
      is_exponent = IsExponent.absent;
      whole = more ∙ sym (append-nil (front ++ (n.fraction ++ b ∷ [])));
      starts = n.starts;
      kind = refl;
    } in
    record {
      hint = hint_by n.has_minus true false;
      numeral = numeral;
      last = fraction-last n.fraction b;
    }

-- The exponent begins or goes on.
exponent-grows : (text : List ℕ) (b : ℕ) (hint : Hint) (n : IsNumeral text hint) (part : NumberPart) →
    IsExponent (n.exponent ++ b ∷ []) true → part ≡ last_part n.fraction (n.exponent ++ b ∷ []) →
    EndsIn part (text ++ b ∷ [])
exponent-grows text b hint n part grown last =
    let front = n.sign ++ n.digits ++ n.fraction in
    let numeral : IsNumeral (text ++ b ∷ []) (hint_by n.has_minus n.has_fraction true) =
    record {
      sign = n.sign;
      digits = n.digits;
      fraction = n.fraction;
      exponent = n.exponent ++ b ∷ [];
      has_minus = n.has_minus;
      has_fraction = n.has_fraction;
      has_exponent = true;
      is_minus = n.is_minus;
      are_digits = n.are_digits;
      is_fraction = n.is_fraction;
      is_exponent = grown;
      whole = ap (λ l. l ++ b ∷ []) n.whole ∙ append_assoc front n.exponent (b ∷ []);
      starts = n.starts;
      kind = refl;
    } in
    record { hint = hint_by n.has_minus n.has_fraction true; numeral = numeral; last = last }

-- ---- a byte that goes on with a number

pub digit-after_digits : (b : ℕ) → is_digit b ≡ true → ExtendsWith in_digits b in_digits
digit-after_digits b e = λ text i. digits-grow text b i e

pub dot-after_digits : (b : ℕ) → (b == dot) ≡ true → ExtendsWith in_digits b in_fraction
dot-after_digits b e = λ text i.
    let n = i.numeral in
    let none = last-digits n.fraction n.exponent i.last in
    fraction-grows text b i.hint n none.1
    (subst (λ l. IsFraction (l ++ b ∷ []) true) (sym none.0) (fraction-dot b e))

-- A mark after digits or a fraction.
mark-grows : (text : List ℕ) (b : ℕ) (hint : Hint) (n : IsNumeral text hint) → n.exponent ≡ [] →
    is_exponent_mark b ≡ true → EndsIn at_mark (text ++ b ∷ [])
mark-grows text b hint n none e =
    exponent-grows text b hint n at_mark
    (subst (λ l. IsExponent (l ++ b ∷ []) true) (sym none) (exponent-mark b e))
    (mark-last n.fraction b ∙ ap (λ l. last_part n.fraction (l ++ b ∷ [])) (sym none))

pub mark-after_digits : (b : ℕ) → is_exponent_mark b ≡ true → ExtendsWith in_digits b at_mark
mark-after_digits b e = λ text i.
    mark-grows text b i.hint i.numeral (last-digits i.numeral.fraction i.numeral.exponent i.last).1 e

pub digit-after_fraction : (b : ℕ) → is_digit b ≡ true → ExtendsWith in_fraction b in_fraction
digit-after_fraction b e = λ text i.
    let n = i.numeral in
    let is = last-fraction n.fraction n.exponent i.last in
    fraction-grows text b i.hint n is.1 (fraction-digit n.fraction n.has_fraction b n.is_fraction is.0 e)

pub mark-after_fraction : (b : ℕ) → is_exponent_mark b ≡ true → ExtendsWith in_fraction b at_mark
mark-after_fraction b e = λ text i.
    mark-grows text b i.hint i.numeral (last-fraction i.numeral.fraction i.numeral.exponent i.last).1 e

-- An exponent that has begun goes on.
in_exponent-grows : (text : List ℕ) (b : ℕ) (hint : Hint) (n : IsNumeral text hint) → n.exponent ≢ [] →
    IsExponent (n.exponent ++ b ∷ []) true → EndsIn in_exponent (text ++ b ∷ [])
in_exponent-grows text b hint n some grown =
    exponent-grows text b hint n in_exponent grown (exponent-last n.fraction n.exponent b some)

-- By a digit.
exponent_digit-grows : (text : List ℕ) (b : ℕ) (hint : Hint) (n : IsNumeral text hint) → n.exponent ≢ [] →
    is_digit b ≡ true → EndsIn in_exponent (text ++ b ∷ [])
exponent_digit-grows text b hint n some e =
    in_exponent-grows text b hint n some (exponent-digit n.exponent n.has_exponent b n.is_exponent some e)

pub sign-after_mark : (b : ℕ) → is_sign b ≡ true → ExtendsWith at_mark b in_exponent
sign-after_mark b e = λ text i.
    let one = last-mark i.numeral.fraction i.numeral.exponent i.last in
    in_exponent-grows text b i.hint i.numeral (λ z. omega (arith, one, ap length z))
    (exponent-sign i.numeral.exponent i.numeral.has_exponent b i.numeral.is_exponent one e)

pub digit-after_mark : (b : ℕ) → is_digit b ≡ true → ExtendsWith at_mark b in_exponent
digit-after_mark b e = λ text i.
    let one = last-mark i.numeral.fraction i.numeral.exponent i.last in
    exponent_digit-grows text b i.hint i.numeral (λ z. omega (arith, one, ap length z)) e

pub digit-after_exponent : (b : ℕ) → is_digit b ≡ true → ExtendsWith in_exponent b in_exponent
digit-after_exponent b e = λ text i.
    let two = last-exponent i.numeral.fraction i.numeral.exponent i.last in
    exponent_digit-grows text b i.hint i.numeral (λ z. omega (arith, two, ap length z)) e

-- ---- a byte that a number ends before

-- A byte that is no digit begins no digits.
digits_len-no_digit : (b : ℕ) (rest : List ℕ) → is_digit b ≡ false → digits_len (b ∷ rest) ≡ 0
digits_len-no_digit b rest no_digit = rw no_digit refl

-- No digit begins an exponent and a byte that is none.
digits_len-shut : (exponent : List ℕ) (has : Bool) (b : ℕ) (rest : List ℕ) → IsExponent exponent has →
    is_digit b ≡ false → digits_len (exponent ++ b ∷ rest) ≡ 0
digits_len-shut _ _ b rest IsExponent.absent no_digit = digits_len-no_digit b rest no_digit
digits_len-shut _ _ b rest (IsExponent.present mark sign digits m s d) no_digit = rw (mark_no_digit mark m) refl

-- Nor a fraction, an exponent and such a byte.
digits_len-shut_after : (fraction exponent : List ℕ) (has_fraction has_exponent : Bool) (b : ℕ) (rest : List ℕ) →
    IsFraction fraction has_fraction → IsExponent exponent has_exponent → is_digit b ≡ false →
    digits_len (fraction ++ (exponent ++ b ∷ rest)) ≡ 0
digits_len-shut_after _ exponent _ has b rest IsFraction.absent x no_digit = digits_len-shut exponent has b rest x no_digit
digits_len-shut_after _ exponent _ has b rest (IsFraction.present digits d) x no_digit = refl

-- No dot begins an exponent and a byte that is none.
fraction_len-shut : (exponent : List ℕ) (has : Bool) (b : ℕ) (rest : List ℕ) → IsExponent exponent has →
    (exponent ≡ [] → (b == dot) ≡ false) → fraction_len (exponent ++ b ∷ rest) ≡ 0
fraction_len-shut _ _ b rest IsExponent.absent no_dot = rw (no_dot refl) refl
fraction_len-shut _ _ b rest (IsExponent.present mark sign digits m s d) no_dot = rw (mark_no_dot mark m) refl

-- A fraction is as long as it is.
fraction_len-shut_after : (fraction exponent : List ℕ) (has_fraction has_exponent : Bool) (b : ℕ) (rest : List ℕ) →
    IsFraction fraction has_fraction → IsExponent exponent has_exponent → is_digit b ≡ false →
    (fraction ≡ [] → exponent ≡ [] → (b == dot) ≡ false) →
    fraction_len (fraction ++ (exponent ++ b ∷ rest)) ≡ length fraction
fraction_len-shut_after _ exponent _ has b rest IsFraction.absent x no_digit no_dot =
    fraction_len-shut exponent has b rest x (no_dot refl)
fraction_len-shut_after _ exponent _ has b rest (IsFraction.present digits d) x no_digit no_dot =
    omega (arith, digits_len-append digits (exponent ++ b ∷ rest) d, digits_len-shut exponent has b rest x no_digit)

-- So are a sign and digits.
power_len-shut : (sign digits : List ℕ) (b : ℕ) (rest : List ℕ) → IsExponentSign sign → AreDigits digits →
    is_digit b ≡ false → (sign ++ digits ≡ [] → is_sign b ≡ false) →
    power_len (sign ++ digits ++ b ∷ rest) ≡ length (sign ++ digits)
power_len-shut _ _ b rest IsExponentSign.absent AreDigits.none no_digit no_sign =
    rw (no_sign refl, no_digit) refl
power_len-shut _ _ b rest IsExponentSign.absent (AreDigits.digit c digits e d) no_digit no_sign =
    rw (digit_no_sign c e, e) (omega (arith, digits_len-append digits (b ∷ rest) d, digits_len-no_digit b rest no_digit))
power_len-shut _ digits b rest (IsExponentSign.present c e) d no_digit no_sign =
    rw e (omega (arith, digits_len-append digits (b ∷ rest) d, digits_len-no_digit b rest no_digit))

-- An exponent is as long as it is.
exponent_len-shut : (exponent : List ℕ) (has : Bool) (b : ℕ) (rest : List ℕ) → IsExponent exponent has →
    is_digit b ≡ false → (exponent ≡ [] → is_exponent_mark b ≡ false) → (length exponent ≡ 1 → is_sign b ≡ false) →
    exponent_len (exponent ++ b ∷ rest) ≡ length exponent
exponent_len-shut _ _ b rest IsExponent.absent no_digit no_mark no_sign = rw (no_mark refl) refl
exponent_len-shut _ _ b rest (IsExponent.present mark sign digits m s d) no_digit no_mark no_sign =
    rw m (ap suc (power_len-shut sign digits b rest s d no_digit (λ z. no_sign (ap (λ l. suc (length l)) z))))

-- A number is the longest before a byte that goes on with none of its parts.
shut : (text rest : List ℕ) (b : ℕ) (hint : Hint) (n : IsNumeral text hint) → is_digit b ≡ false →
    (n.fraction ≡ [] → n.exponent ≡ [] → (b == dot) ≡ false) → (n.exponent ≡ [] → is_exponent_mark b ≡ false) →
    (length n.exponent ≡ 1 → is_sign b ≡ false) → parts (text ++ b ∷ rest) ≡ parts text
shut text rest b hint n no_digit no_dot no_mark no_sign =
    parts-by text hint n (b ∷ rest)
    (digits_len-shut_after n.fraction n.exponent n.has_fraction n.has_exponent b rest n.is_fraction n.is_exponent
    no_digit)
    (fraction_len-shut_after n.fraction n.exponent n.has_fraction n.has_exponent b rest n.is_fraction n.is_exponent
    no_digit no_dot)
    (exponent_len-shut n.exponent n.has_exponent b rest n.is_exponent no_digit no_mark no_sign)
    ∙ sym (parts-is text hint n)

pub shut-digits : (b : ℕ) → is_digit b ≡ false → (b == dot) ≡ false → is_exponent_mark b ≡ false →
    EndsBefore in_digits b
shut-digits b no_digit no_dot no_mark = λ text rest i.
    let none = last-digits i.numeral.fraction i.numeral.exponent i.last in
    shut text rest b i.hint i.numeral no_digit (λ _ _. no_dot) (λ _. no_mark)
    (λ one. absurd (omega (arith, one, ap length none.1)))

pub shut-fraction : (b : ℕ) → is_digit b ≡ false → is_exponent_mark b ≡ false → EndsBefore in_fraction b
shut-fraction b no_digit no_mark = λ text rest i.
    let is = last-fraction i.numeral.fraction i.numeral.exponent i.last in
    shut text rest b i.hint i.numeral no_digit (λ z _. absurd (is.0 z)) (λ _. no_mark)
    (λ one. absurd (omega (arith, one, ap length is.1)))

pub shut-mark : (b : ℕ) → is_digit b ≡ false → is_sign b ≡ false → EndsBefore at_mark b
shut-mark b no_digit no_sign = λ text rest i.
    let one = last-mark i.numeral.fraction i.numeral.exponent i.last in
    shut text rest b i.hint i.numeral no_digit (λ _ z. absurd (omega (arith, one, ap length z)))
    (λ z. absurd (omega (arith, one, ap length z))) (λ _. no_sign)

pub shut-exponent : (b : ℕ) → is_digit b ≡ false → EndsBefore in_exponent b
shut-exponent b no_digit = λ text rest i.
    let two = last-exponent i.numeral.fraction i.numeral.exponent i.last in
    shut text rest b i.hint i.numeral no_digit (λ _ z. absurd (omega (arith, two, ap length z)))
    (λ z. absurd (omega (arith, two, ap length z))) (λ one. absurd (omega (arith, two, one)))
