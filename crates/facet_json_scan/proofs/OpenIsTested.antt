-- The test of an open buffer says exactly where it is open.
use Rattle.std.proofs.Common.{◌≡◌, ◌≢◌, ℕ, ◌<◌, Bool, true, false, cond, ◌==◌, ◌&&◌, is_none, List, [], ◌∷◌, ◌++◌, length, drop, Option, Some, None, refl, sym, ap, ◌∙◌, subst, arith, length-append}
use Rattle.std.proofs.lemmas.Bool.{and_parts, and_from, eqb-true, ltb-true, lt-ltb, eq-eqb}
use Rattle.std.proofs.lemmas.List.{append-nil}
use Rattle.facet_format.specs.Bytes.{backslash, slash, star}
use Rattle.facet_json_token.specs.Gap.{Mode, plain, jsonc}
use Rattle.facet_json_token.specs.GapLen.{one_more, through_block_end, through_line_end}
use Rattle.facet_format.specs.NumberParts.{parts, parts_len, begins_number}
use Rattle.facet_json_token.specs.Token.{Kind}
use Rattle.facet_json_token.specs.Cut.{Start, letter, start_of, common_len, content_len}
use Rattle.facet_json_token.specs.Shape.{ArePieces, IsLiteral, null_stands, true_stands, false_stands}
use Rattle.facet_json_token.specs.Open.{IsBeginning}
use Rattle.facet_json_token.specs.OpenTest.{is_prefix_by, is_open_comment, is_beginning_by, is_beginning, is_open, OpenIsTested}
use Rattle.facet_format.proofs.NumberLaws.{parts_len-is, begins_number-is}
use Rattle.facet_json_token.proofs.Starts.{Begins, a_mark, a_word, a_text, a_number, a_comment, no_token, start_of-begins, start_of-number}
use Rattle.facet_json_scan.proofs.Growth.GrowthOfGap.{opens_block, opens_line}
use Rattle.facet_json_scan.proofs.Growth.GrowthOfNumber.{number_begins}
use Rattle.facet_json_scan.proofs.Growth.GrowthOfText.{text_begins}
use Rattle.facet_json_scan.proofs.NoPiece.{opens_block-none, opens_line-none}
use Rattle.facet_json_scan.proofs.Pieces.PendingWord.{common_len-prefix, prefix_of_word}

-- ---- what is tested to be a beginning is one

-- What is tested to be nothing is nothing.
is_none-is : (o : Option ℕ) → is_none o ≡ true → o ≡ None
is_none-is None e = refl
is_none-is (Some n) e = cc

-- A prefix of a literal that is tested to be proper is a beginning.
word_begins : (mode : Mode) (b : ℕ) (bytes word : List ℕ) (kind : Kind) → IsLiteral word kind →
    is_prefix_by (common_len word (b ∷ bytes)) word (b ∷ bytes) ≡ true → IsBeginning mode (b ∷ bytes)
word_begins mode b bytes word kind h e =
    let front = b ∷ bytes in
    let both = and_parts _ _ e in
    let all : common_len word front ≡ length front = eqb-true _ _ both.0 in
    let short : common_len word front < length word = ltb-true _ _ both.1 in
    let others = drop (length front) word in
    let whole : word ≡ front ++ others = prefix_of_word word front all in
    let more : others ≢ [] = λ nil. omega (arith, ap length whole, length-append front others, ap length nil) in
    IsBeginning.literal mode front others kind (subst (λ w. IsLiteral w kind) whole h) (λ nil. cc) more

-- A comment that is tested to be open is a beginning.
comment_begins : (bytes : List ℕ) → is_open_comment bytes ≡ true → IsBeginning jsonc (slash ∷ bytes)
comment_begins [] e = IsBeginning.slash_alone
comment_begins (b ∷ bytes) e = by_star (b == star) refl e
  where
    by_star : (t : Bool) → (b == star) ≡ t →
        cond t (is_none (through_block_end bytes)) ((b == slash) && is_none (through_line_end bytes)) ≡ true →
        IsBeginning jsonc (slash ∷ b ∷ bytes)
    by_star true is h =
        rw (eqb-true b star is) (IsBeginning.block bytes (opens_block bytes (is_none-is _ h)))
    by_star false is h =
        let both = and_parts _ _ h in
        rw (eqb-true b slash both.0) (IsBeginning.line bytes (opens_line bytes (is_none-is _ both.1)))

-- What begins with a byte and is tested to be a beginning is one.
begins_by : (start : Start) (mode : Mode) (b : ℕ) (bytes : List ℕ) → Begins b start →
    is_beginning_by start mode b bytes ≡ true → IsBeginning mode (b ∷ bytes)
begins_by _ mode b bytes (a_mark _ kind h) e = cc
begins_by _ mode b bytes (a_word _ letters kind h) e = word_begins mode b bytes (b ∷ letters) kind h e
begins_by _ mode b bytes a_text e = text_begins mode bytes (is_none-is _ e)
begins_by _ mode b bytes (a_number _ h) e = number_begins mode (b ∷ bytes) h (eqb-true _ _ e)
begins_by _ plain b bytes a_comment e = cc
begins_by _ jsonc b bytes a_comment e = comment_begins bytes e
begins_by _ mode b bytes (no_token _ h) e = cc

-- What is tested to be a beginning is one.
is_beginning-sound : (mode : Mode) (bytes : List ℕ) → is_beginning mode bytes ≡ true → IsBeginning mode bytes
unfolding is_beginning
is_beginning-sound mode [] e = cc
is_beginning-sound mode (b ∷ bytes) e = begins_by (start_of b) mode b bytes (start_of-begins b) e

-- ---- a beginning is tested to be one

-- A content that doesn't end after pieces doesn't end with them in front.
content_len-pieces : (content rest : List ℕ) (has_escapes : Bool) → ArePieces content has_escapes →
    content_len false rest ≡ None → content_len false (content ++ rest) ≡ None
content_len-pieces _ rest _ ArePieces.none e = e
content_len-pieces _ rest _ (ArePieces.byte b others has_escapes no_quote no_backslash h) e =
    rw (no_quote, no_backslash) (ap one_more (content_len-pieces others rest has_escapes h e))
content_len-pieces _ rest _ (ArePieces.escape b others has_escapes h) e =
    ap (λ o. one_more (one_more o)) (content_len-pieces others rest has_escapes h e)

-- A literal's first letter begins it.
start_of-word : (b : ℕ) (letters : List ℕ) (kind : Kind) → IsLiteral (b ∷ letters) kind →
    start_of b ≡ letter (b ∷ letters) kind
unfolding start_of
start_of-word _ _ _ null_stands = refl
start_of-word _ _ _ true_stands = refl
start_of-word _ _ _ false_stands = refl

-- A proper prefix of a literal is tested to be a beginning.
literal_tested : (mode : Mode) (front others : List ℕ) (kind : Kind) → IsLiteral (front ++ others) kind →
    front ≢ [] → others ≢ [] → is_beginning mode front ≡ true
unfolding is_beginning
literal_tested mode [] others kind h some more = absurd (some refl)
literal_tested mode (b ∷ front) [] kind h some more = absurd (more refl)
literal_tested mode (b ∷ front) (c ∷ others) kind h some more =
    let word = (b ∷ front) ++ c ∷ others in
    let all : common_len word (b ∷ front) ≡ length (b ∷ front) = common_len-prefix (b ∷ front) (c ∷ others) in
    let short : common_len word (b ∷ front) < length word =
    omega (arith, all, length-append (b ∷ front) (c ∷ others)) in
    rw (start_of-word b _ kind h) (and_from _ _ (eq-eqb _ _ all) (lt-ltb _ _ short))

-- A number that goes to the end of the bytes is tested to be a beginning.
number_tested : (mode : Mode) (bytes : List ℕ) → begins_number bytes ≡ true →
    parts_len (parts bytes) ≡ length bytes → is_beginning mode bytes ≡ true
unfolding is_beginning
number_tested mode [] begins all = cc
number_tested mode (b ∷ bytes) begins all = rw (start_of-number b begins) (eq-eqb _ _ all)

-- A beginning is tested to be one.
is_beginning-complete : (mode : Mode) (bytes : List ℕ) → IsBeginning mode bytes → is_beginning mode bytes ≡ true
unfolding is_beginning start_of parts
is_beginning-complete _ _ (IsBeginning.text mode content has_escapes h) =
    ap is_none (ap (content_len false) (sym (append-nil content)) ∙ content_len-pieces content [] has_escapes h refl)
is_beginning-complete _ _ (IsBeginning.escape mode content has_escapes h) =
    ap is_none (content_len-pieces content (backslash ∷ []) has_escapes h refl)
is_beginning-complete _ _ (IsBeginning.literal mode front others kind h some more) =
    literal_tested mode front others kind h some more
is_beginning-complete _ _ IsBeginning.slash_alone = refl
is_beginning-complete _ _ (IsBeginning.block body h) = ap is_none (opens_block-none body h)
is_beginning-complete _ _ (IsBeginning.line body h) = ap is_none (opens_line-none body h)
is_beginning-complete _ _ (IsBeginning.number mode text hint h) =
    number_tested mode text (begins_number-is text hint h.numeral) (parts_len-is text hint h.numeral)
is_beginning-complete _ _ (IsBeginning.minus_alone mode) = refl

-- ---- the law

-- A buffer is tested to be open exactly where it is.
pub open_is_tested : OpenIsTested
unfolding is_open
open_is_tested buffer position mode = (is_beginning-sound mode _, is_beginning-complete mode _)
