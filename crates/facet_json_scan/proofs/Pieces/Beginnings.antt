-- What the beginning of a longer token is by its first byte.
use Rattle.std.proofs.Common.{◌≡◌, ◌≢◌, ℕ, ◌<◌, Bool, true, false, ◌==◌, ◌⊎◌, inl, inr, List, [], ◌∷◌, ◌++◌, length, None, refl, sym, ap, subst, arith}
use Rattle.std.proofs.lemmas.Bool.{eqb-true, and_parts, leb-true, or_cases}
use Rattle.facet_format.specs.Bytes.{quote, backslash, slash, minus, lower_n, lower_t, lower_f, is_digit}
use Rattle.facet_json_token.specs.Gap.{Mode}
use Rattle.facet_json_token.specs.GapLen.{one_more}
use Rattle.facet_format.specs.NumberParts.{parts, parts_len, starts_number}
use Rattle.facet_json_token.specs.Token.{Kind}
use Rattle.facet_json_token.specs.Cut.{Start, punctuation, letter, opens_text, opens_number, opens_comment, opens_nothing, start_of, content_len}
use Rattle.facet_json_token.specs.Shape.{ArePieces, IsLiteral}
use Rattle.facet_json_token.specs.Open.{IsBeginning}
use Rattle.facet_json_scan.specs.Scanner.{State, Describes}
use Rattle.facet_json_token.proofs.Starts.{Begins, a_mark, a_word, a_text, a_number, a_comment, no_token, start_of-begins, start_of-number}
use Rattle.facet_json_scan.proofs.Growth.GrowthOfNumber.{number_begins}
use Rattle.facet_format.proofs.NumberLaws.{parts_len-is, begins_number-is}

-- What begins with a byte is the beginning of something longer: where that is a string, it doesn't end, a literal has more
-- letters, and a number goes to the end.
abbrev pub BeginsBy : Start → ℕ → List ℕ → Type 0
BeginsBy (punctuation kind) b bytes = ⊥
BeginsBy (letter word kind) b bytes = (others : List ℕ) × (word ≡ (b ∷ bytes) ++ others) × (others ≢ [])
BeginsBy opens_text b bytes = content_len false bytes ≡ None
BeginsBy opens_number b bytes = parts_len (parts (b ∷ bytes)) ≡ length (b ∷ bytes)
BeginsBy opens_comment b bytes = Unit {0}
BeginsBy opens_nothing b bytes = ⊥

-- Pieces hold no closing quote.
pub pieces_go_on : (content : List ℕ) (has_escapes : Bool) → ArePieces content has_escapes → content_len false content ≡ None
pieces_go_on _ _ ArePieces.none = refl
pieces_go_on _ _ (ArePieces.byte b others e no_quote no_backslash h) =
    rw (no_quote, no_backslash) (ap one_more (pieces_go_on others e h))
pieces_go_on _ _ (ArePieces.escape b others e h) = ap (λ o. one_more (one_more o)) (pieces_go_on others e h)

-- Nor do pieces and a backslash.
pub pieces_go_on_escaped : (content : List ℕ) (has_escapes : Bool) → ArePieces content has_escapes →
    content_len false (content ++ backslash ∷ []) ≡ None
pieces_go_on_escaped _ _ ArePieces.none = refl
pieces_go_on_escaped _ _ (ArePieces.byte b others e no_quote no_backslash h) =
    rw (no_quote, no_backslash) (ap one_more (pieces_go_on_escaped others e h))
pieces_go_on_escaped _ _ (ArePieces.escape b others e h) =
    ap (λ o. one_more (one_more o)) (pieces_go_on_escaped others e h)

-- The first letter of a literal begins it.
pub literal_starts : (b : ℕ) (word letters : List ℕ) (kind : Kind) → IsLiteral word kind → word ≡ b ∷ letters →
    start_of b ≡ letter word kind
unfolding start_of
literal_starts b _ letters _ IsLiteral.null_stands e = let is : b ≡ 0x6e = cc in rw is refl
literal_starts b _ letters _ IsLiteral.true_stands e = let is : b ≡ 0x74 = cc in rw is refl
literal_starts b _ letters _ IsLiteral.false_stands e = let is : b ≡ 0x66 = cc in rw is refl

-- A beginning is one by its first byte.
pub begins_by : (mode : Mode) (b : ℕ) (bytes : List ℕ) → IsBeginning mode (b ∷ bytes) → BeginsBy (start_of b) b bytes
unfolding start_of parts
begins_by mode _ _ (IsBeginning.text _ content e pieces) = pieces_go_on content e pieces
begins_by mode _ _ (IsBeginning.escape _ content e pieces) = pieces_go_on_escaped content e pieces
begins_by mode b bytes (IsBeginning.literal _ _ others kind is some more) =
    subst (λ s. BeginsBy s b bytes) (sym (literal_starts b _ (bytes ++ others) kind is refl)) (others, refl, more)
begins_by _ _ _ IsBeginning.slash_alone = tt
begins_by _ _ _ (IsBeginning.block body h) = tt
begins_by _ _ _ (IsBeginning.line body h) = tt
begins_by mode b bytes (IsBeginning.number _ _ hint is) =
    subst (λ s. BeginsBy s b bytes) (sym (start_of-number b (begins_number-is (b ∷ bytes) hint is.numeral)))
    (parts_len-is (b ∷ bytes) hint is.numeral)
begins_by _ _ _ (IsBeginning.minus_alone _) = refl

-- A byte that begins no string, no literal and no number begins nothing longer, if it isn't a slash that does.
pub others_shut : (mode : Mode) (b : ℕ) (bytes : List ℕ) → b ≢ quote → b ≢ lower_n → b ≢ lower_t → b ≢ lower_f →
    b ≢ minus → (b < 0x30) ⊎ (0x39 < b) → (b ≡ slash → IsBeginning mode (b ∷ bytes) → ⊥) →
    IsBeginning mode (b ∷ bytes) → ⊥
others_shut mode b bytes no_quote no_n no_t no_f no_minus no_digit no_comment i =
    by_start b (start_of b) (start_of-begins b) (begins_by mode b bytes i) no_quote no_n no_t no_f number
    (λ e. no_comment e i)
  where
    number : starts_number b ≡ true → ⊥
    number e =
        elim (or_cases (b == minus) (is_digit b) e) [
          | inl h ↦ no_minus (eqb-true b minus h)
          | inr h ↦
              let both = and_parts _ _ h in
              let low = leb-true 0x30 b both.0 in
              let high = leb-true b 0x39 both.1 in
              elim no_digit [ inl below ↦ absurd (omega arith) | inr above ↦ absurd (omega arith) ]
        ]

    by_word : (b : ℕ) (word letters : List ℕ) (kind : Kind) → IsLiteral word kind → word ≡ b ∷ letters →
        b ≢ lower_n → b ≢ lower_t → b ≢ lower_f → ⊥
    by_word b _ letters _ IsLiteral.null_stands e n t f = n (let is : b ≡ 0x6e = cc in is)
    by_word b _ letters _ IsLiteral.true_stands e n t f = t (let is : b ≡ 0x74 = cc in is)
    by_word b _ letters _ IsLiteral.false_stands e n t f = f (let is : b ≡ 0x66 = cc in is)

    by_start : (b : ℕ) (s : Start) → Begins b s → BeginsBy s b bytes → b ≢ quote → b ≢ lower_n → b ≢ lower_t →
        b ≢ lower_f → (starts_number b ≡ true → ⊥) → (b ≡ slash → ⊥) → ⊥
    by_start b _ (a_mark _ kind h) k q n t f d c = k
    by_start b _ (a_word _ letters kind h) k q n t f d c = by_word b (b ∷ letters) letters kind h refl n t f
    by_start _ _ a_text k q n t f d c = q refl
    by_start b _ (a_number _ h) k q n t f d c = d h
    by_start _ _ a_comment k q n t f d c = c refl
    by_start b _ (no_token _ h) k q n t f d c = k

-- Nothing begins nothing.
pub nothing_shut : (mode : Mode) → IsBeginning mode [] → ⊥
nothing_shut mode (IsBeginning.literal _ _ others kind is some more) = some refl
nothing_shut mode (IsBeginning.number _ _ hint is) = let begins = begins_number-is [] hint is.numeral in cc

-- What the state describes is a beginning.
pub described_begins : (mode : Mode) (state : State) (bytes : List ℕ) → Describes mode state bytes → IsBeginning mode bytes
described_begins mode _ _ (Describes.text _ content e h) = IsBeginning.text mode content e h
described_begins mode _ _ (Describes.escape _ content e h) = IsBeginning.escape mode content e h
described_begins mode _ _ (Describes.literal _ front others kind is some more) =
    IsBeginning.literal mode front others kind is some more
described_begins mode _ _ (Describes.number _ part text i) =
    number_begins mode text (begins_number-is text i.hint i.numeral) (parts_len-is text i.hint i.numeral)
described_begins _ _ _ Describes.slash_alone = IsBeginning.slash_alone
described_begins _ _ _ (Describes.line body h) = IsBeginning.line body h
described_begins _ _ _ (Describes.block body after_star h is) = IsBeginning.block body h
