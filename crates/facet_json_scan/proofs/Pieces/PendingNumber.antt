-- A number that the end of a buffer cuts, and its token where it ends before.
use Rattle.std.proofs.Common.{◌≡◌, ◌≢◌, ℕ, ◌+◌, ◌-◌, ◌<◌, ◌≤◌, Bool, true, false, cond, ◌==◌, List, [], ◌∷◌, ◌++◌, length, drop, slice_get, Some, refl, ap, ap₂, sym, ◌∙◌, subst, arith, length-drop}
use Rattle.std.proofs.lemmas.Bool.{eqb-true}
use Rattle.facet_format.specs.Bytes.{minus, dot}
use Rattle.facet_json_token.specs.Gap.{Mode}
use Rattle.facet_format.specs.Number.{Hint, float, AreDigits, IsMinus, IsFraction, IsExponent, hint_by, IsNumeral}
use Rattle.facet_format.specs.NumberParts.{is_some_len, parts, parts_len, parts_hint, is_bare, starts_number, begins_number}
use Rattle.facet_json_token.specs.Token.{number}
use Rattle.facet_json_token.specs.Cut.{opens_number, start_of, cut_number, cut_here, token_at}
use Rattle.facet_json_token.specs.Open.{IsBeginning}
use Rattle.facet_json_scan.specs.Scanner.{NumberPart, in_digits, in_fraction, at_mark, in_exponent, last_part, part_hint, EndsIn, in_number, Describes}
use Rattle.facet_json_token.proofs.Offsets.{drop-at_byte}
use Rattle.facet_json_scan.proofs.Segments.{between, between-length, between-starts}
use Rattle.facet_json_scan.proofs.Pieces.NumberParts.{last-digits}
use Rattle.facet_json_token.proofs.NumberCuts.{number_at}
use Rattle.facet_format.proofs.NumberLaws.{parts-is, parts_len-is, parts_hint-is, begins_number-is, is_bare-number, minus-some}
use Rattle.facet_json_scan.proofs.Pieces.Beginnings.{BeginsBy, begins_by}
use Rattle.facet_json_token.proofs.FirstBytes.{cut_here-number}
use Rattle.facet_json_token.proofs.Starts.{start_of-number}

-- What a pending number's state says of it.
pub number-ends : (mode : Mode) (part : NumberPart) (text : List ℕ) → Describes mode (in_number part) text → EndsIn part text
number-ends mode part text (Describes.number _ _ _ i) = i

-- A byte that is a sign, or digits.
byte-ends : (b : ℕ) (sign digits : List ℕ) (has_minus : Bool) → IsMinus sign has_minus → AreDigits digits →
    b ∷ [] ≡ sign ++ digits ++ [] ++ [] → sign ++ digits ≢ [] → EndsIn in_digits (b ∷ [])
byte-ends b sign digits has_minus is_minus are_digits whole starts =
    let numeral : IsNumeral (b ∷ []) (hint_by has_minus false false) =
    record {
      sign = sign;
      digits = digits;
      fraction = [];
      exponent = [];
      has_minus = has_minus;
      has_fraction = false;
      has_exponent = false;
      is_minus = is_minus;
      are_digits = are_digits;
      is_fraction = IsFraction.absent;
      is_exponent = IsExponent.absent;
      whole = whole;
      starts = starts;
      kind = refl;
    } in
    record { hint = hint_by has_minus false false; numeral = numeral; last = refl }

-- A minus or a digit is a number's first byte.
pub first-ends : (b : ℕ) → starts_number b ≡ true → EndsIn in_digits (b ∷ [])
first-ends b e = by_minus (b == minus) refl e
  where
    by_minus : (t : Bool) → (b == minus) ≡ t → starts_number b ≡ true → EndsIn in_digits (b ∷ [])
    by_minus true is e =
        byte-ends b (minus ∷ []) [] true IsMinus.present AreDigits.none (ap (λ x. x ∷ []) (eqb-true b minus is)) (λ z. cc)
    by_minus false is e =
        byte-ends b [] (b ∷ []) false IsMinus.absent (AreDigits.digit b [] (rw is at e) AreDigits.none) refl (λ z. cc)

-- ---- where it ends before the buffer does

-- Then nothing longer begins.
pub number-shut : (mode : Mode) (b : ℕ) (bytes : List ℕ) → start_of b ≡ opens_number →
    (parts_len (parts (b ∷ bytes)) ≡ length (b ∷ bytes) → ⊥) → IsBeginning mode (b ∷ bytes) → ⊥
number-shut mode b bytes begins ends i = ends (subst (λ s. BeginsBy s b bytes) begins (begins_by mode b bytes i))

-- The number between two offsets of the buffer that is the longest at the first is cut there, and nothing longer begins.
pub number-found : (mode : Mode) (buffer : List ℕ) (start end b : ℕ) (part : NumberPart) → start < end → end < length buffer →
    slice_get buffer start ≡ Some b → EndsIn part (between buffer start end) →
    parts (drop start buffer) ≡ parts (between buffer start end) →
    (number_at start (drop (start + 1) buffer) (parts (between buffer start end))
    ≡ cut_here mode start (drop start buffer))
    × (IsBeginning mode (drop start buffer) → ⊥)
number-found mode buffer start end b part order room here i same =
    let text = between buffer start end in
    let rest = drop (start + 1) buffer in
    let front : drop start buffer ≡ b ∷ rest = drop-at_byte buffer start b here in
    let starts : starts_number b ≡ true =
    sym (ap begins_number (between-starts buffer start end b order (omega arith) here))
    ∙ begins_number-is text i.hint i.numeral in
    let begins : start_of b ≡ opens_number = start_of-number b starts in
    let ends : parts_len (parts (b ∷ rest)) ≡ length (b ∷ rest) → ⊥ =
    λ e. omega (
      arith,
      e,
      ap (λ l. parts_len (parts l)) front,
      ap length front,
      ap parts_len same,
      parts_len-is text i.hint i.numeral,
      between-length buffer start end (omega arith),
      length-drop start buffer,
    ) in (
      ap (number_at start rest) (sym same) ∙ cut_here-number mode buffer start b here begins,
      λ x. number-shut mode b rest begins ends (subst (IsBeginning mode) front x),
    )

-- ---- its hint

-- What is measured of a minus says whether one is there.
some-one : (t : Bool) → is_some_len (cond t 1 0) ≡ t
some-one true = refl
some-one false = refl

-- A minus stands in a number whose first byte is one.
has_minus-first : (b : ℕ) (bytes : List ℕ) (hint : Hint) (n : IsNumeral (b ∷ bytes) hint) → n.has_minus ≡ (b == minus)
unfolding parts
has_minus-first b bytes hint n =
    sym (minus-some n.sign n.has_minus n.is_minus)
    ∙ ap (λ p. is_some_len p.sign) (sym (parts-is (b ∷ bytes) hint n)) ∙ some-one (b == minus)

-- Digits alone have neither fraction nor exponent.
hint-digits : (fraction exponent : List ℕ) (m f e : Bool) → IsFraction fraction f → IsExponent exponent e →
    in_digits ≡ last_part fraction exponent → hint_by m f e ≡ hint_by m false false
hint-digits _ _ m _ _ IsFraction.absent IsExponent.absent last = refl
hint-digits _ exponent m _ _ (IsFraction.present digits d) x last =
    let none : dot ∷ digits ≡ [] = (last-digits (dot ∷ digits) exponent last).0 in cc
hint-digits _ _ m _ _ IsFraction.absent (IsExponent.present mark sign digits h s d) last =
    let none : mark ∷ sign ++ digits ≡ [] = (last-digits [] (mark ∷ sign ++ digits) last).1 in cc

-- With one of them a number is a float.
hint-float : (fraction exponent : List ℕ) (m f e : Bool) → IsFraction fraction f → IsExponent exponent e →
    (in_digits ≡ last_part fraction exponent → ⊥) → hint_by m f e ≡ float
hint-float _ _ m _ _ (IsFraction.present digits d) x last = refl
hint-float _ _ true _ _ IsFraction.absent (IsExponent.present mark sign digits h s d) last = refl
hint-float _ _ false _ _ IsFraction.absent (IsExponent.present mark sign digits h s d) last = refl
hint-float _ _ m _ _ IsFraction.absent IsExponent.absent last = absurd (last refl)

-- The part in which a number ends and its first byte say its hint.
number-hint : (part : NumberPart) (b : ℕ) (bytes : List ℕ) → EndsIn part (b ∷ bytes) →
    part_hint part (b == minus) ≡ parts_hint (parts (b ∷ bytes))
number-hint part b bytes i = by_part part i.last ∙ sym (parts_hint-is (b ∷ bytes) i.hint n ∙ n.kind)
  where
    n : IsNumeral (b ∷ bytes) i.hint
    n = i.numeral

    by_part : (p : NumberPart) → p ≡ last_part n.fraction n.exponent →
        part_hint p (b == minus) ≡ hint_by n.has_minus n.has_fraction n.has_exponent
    by_part in_digits e =
        ap (λ m. hint_by m false false) (sym (has_minus-first b bytes i.hint n))
        ∙ sym (hint-digits n.fraction n.exponent n.has_minus n.has_fraction n.has_exponent n.is_fraction n.is_exponent e)
    by_part in_fraction e =
        sym (hint-float n.fraction n.exponent n.has_minus n.has_fraction n.has_exponent n.is_fraction n.is_exponent
        (λ d. let no : in_digits ≡ in_fraction = d ∙ sym e in cc))
    by_part at_mark e =
        sym (hint-float n.fraction n.exponent n.has_minus n.has_fraction n.has_exponent n.is_fraction n.is_exponent
        (λ d. let no : in_digits ≡ at_mark = d ∙ sym e in cc))
    by_part in_exponent e =
        sym (hint-float n.fraction n.exponent n.has_minus n.has_fraction n.has_exponent n.is_fraction n.is_exponent
        (λ d. let no : in_digits ≡ in_exponent = d ∙ sym e in cc))

-- ---- what is cut of it

-- The token of a number that is more than a minus.
pub number-token : (buffer rest : List ℕ) (start end b : ℕ) (part : NumberPart) → start < end → end ≤ length buffer →
    slice_get buffer start ≡ Some b → (b ≡ minus → end ≡ start + 1 → ⊥) → EndsIn part (between buffer start end) →
    token_at (number start end (part_hint part (b == minus))) start (end - start)
    ≡ number_at start rest (parts (between buffer start end))
number-token buffer rest start end b part order room here more i =
    let text = between buffer start end in
    let size : length text ≡ end - start = between-length buffer start end room in
    let first : text ≡ b ∷ drop 1 text = between-starts buffer start end b order room here in
    let no_minus : text ≡ minus ∷ [] → ⊥ =
    λ e. more (let same = sym first ∙ e in cc) (omega (arith, size, ap length e)) in
    let bare : is_bare (parts text) ≡ false =
    is_bare-number text i.hint (record { numeral = i.numeral; more = no_minus }) in
    let long : end - start ≡ parts_len (parts text) = sym size ∙ sym (parts_len-is text i.hint i.numeral) in
    let finish : end ≡ start + (end - start) = omega arith in
    let hint : part_hint part (b == minus) ≡ parts_hint (parts text) =
    number-hint part b (drop 1 text) (subst (EndsIn part) first i)
    ∙ ap (λ l. parts_hint (parts l)) (sym first) in
    ap (λ n. token_at (number start n (part_hint part (b == minus))) start (end - start)) finish
    ∙ ap₂ (λ n h. token_at (number start (start + n) h) start n) long hint
    ∙ ap (cut_number start rest (parts_len (parts text)) (parts_hint (parts text))) (sym bare)
