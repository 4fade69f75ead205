-- Where no piece of a gap stands, and none begins.
use Rattle.std.proofs.Common.{◌≡◌, ◌≢◌, ℕ, Bool, false, ◌==◌, List, [], ◌∷◌, refl, ap, ◌++◌, None}
use Rattle.std.proofs.lemmas.Bool.{ne_eqb}
use Rattle.facet_format.specs.Bytes.{quote, slash, star, is_space}
use Rattle.facet_json_token.specs.Gap.{Mode, plain, jsonc, Input, growing, OpensBlock, OpensLine}
use Rattle.facet_json_token.specs.GapLen.{piece_len, one_more, with_mark, with_line_mark, through_block_end, through_line_end}
use Rattle.facet_json_token.specs.Token.{Kind}
use Rattle.facet_json_token.specs.Cut.{start_of, letter, opens_comment}
use Rattle.facet_json_token.specs.Shape.{IsLiteral}
use Rattle.facet_json_token.specs.Open.{IsBeginning}
use Rattle.facet_json_scan.specs.Scanner.{State, NumberPart, EndsIn, in_text, in_word, in_number, in_line, Describes}
use Rattle.facet_format.proofs.NumberLaws.{begins_number-is}
use Rattle.facet_json_token.proofs.Starts.{number_byte}
use Rattle.facet_json_scan.proofs.Pieces.Beginnings.{literal_starts}

-- A byte that is neither blank nor a slash is in no gap.
pub no_piece : (mode : Mode) (input : Input) (b : ℕ) (bytes : List ℕ) → is_space b ≡ false → (b == slash) ≡ false →
    piece_len mode input (b ∷ bytes) ≡ 0
no_piece plain input b bytes s e = rw s refl
no_piece jsonc input b [] s e = rw s refl
no_piece jsonc input b (c ∷ bytes) s e = rw (s, e) refl

-- A slash begins no literal.
no_literal : (word bytes : List ℕ) (kind : Kind) → IsLiteral word kind → word ≡ slash ∷ bytes → ⊥
unfolding start_of
no_literal word bytes kind is e =
    let starts : opens_comment ≡ letter word kind = literal_starts slash word bytes kind is e in
    cc

-- Without comments a slash begins nothing.
pub slash_shut-plain : (bytes : List ℕ) → IsBeginning plain (slash ∷ bytes) → ⊥
slash_shut-plain bytes (IsBeginning.literal _ _ others kind is some more) = no_literal _ (bytes ++ others) kind is refl
slash_shut-plain bytes (IsBeginning.number _ _ hint is) =
    let begins = begins_number-is (slash ∷ bytes) hint is.numeral in cc

-- With them it begins nothing before another byte than a star or a slash.
pub slash_shut-jsonc : (b : ℕ) (bytes : List ℕ) → b ≢ star → b ≢ slash → IsBeginning jsonc (slash ∷ b ∷ bytes) → ⊥
slash_shut-jsonc b bytes no_star no_slash (IsBeginning.literal _ _ others kind is some more) =
    no_literal _ (b ∷ bytes ++ others) kind is refl
slash_shut-jsonc b bytes no_star no_slash (IsBeginning.number _ _ hint is) =
    let begins = begins_number-is (slash ∷ b ∷ bytes) hint is.numeral in cc
slash_shut-jsonc _ _ no_star no_slash (IsBeginning.block body h) = no_star refl
slash_shut-jsonc _ _ no_star no_slash (IsBeginning.line body h) = no_slash refl

-- Nor is it a piece of a gap.
pub no_comment : (b : ℕ) (bytes : List ℕ) → b ≢ star → b ≢ slash → piece_len jsonc growing (slash ∷ b ∷ bytes) ≡ 0
no_comment b bytes no_star no_slash = rw (ne_eqb b star no_star, ne_eqb b slash no_slash) refl

-- The first byte of a literal is neither blank nor a slash.
literal_byte : (b : ℕ) (word letters : List ℕ) (kind : Kind) → IsLiteral word kind → word ≡ b ∷ letters →
    (is_space b ≡ false) × ((b == slash) ≡ false)
literal_byte b _ letters _ IsLiteral.null_stands e = let is : b ≡ 0x6e = cc in rw is (refl, refl)
literal_byte b _ letters _ IsLiteral.true_stands e = let is : b ≡ 0x74 = cc in rw is (refl, refl)
literal_byte b _ letters _ IsLiteral.false_stands e = let is : b ≡ 0x66 = cc in rw is (refl, refl)

-- An open block has no end.
pub opens_block-none : (body : List ℕ) → OpensBlock body → through_block_end body ≡ None
opens_block-none _ OpensBlock.nothing = refl
opens_block-none _ (OpensBlock.one b) = refl
opens_block-none _ (OpensBlock.more b c bytes shut h) = rw shut (ap one_more (opens_block-none (c ∷ bytes) h))

-- An open line has no end.
pub opens_line-none : (body : List ℕ) → OpensLine body → through_line_end body ≡ None
opens_line-none _ OpensLine.nothing = refl
opens_line-none _ (OpensLine.more b bytes shut h) = rw shut (ap one_more (opens_line-none bytes h))

-- A number that goes on is no piece of a gap.
pub number_no_piece : (mode : Mode) (part : NumberPart) (text rest : List ℕ) → EndsIn part text →
    piece_len mode growing (text ++ rest) ≡ 0
number_no_piece mode part [] rest i = let begins = begins_number-is [] i.hint i.numeral in cc
number_no_piece mode part (b ∷ text) rest i =
    let byte = number_byte b (begins_number-is (b ∷ text) i.hint i.numeral) in
    no_piece mode growing b (text ++ rest) byte.0 byte.1

-- What is open is no piece of a gap, a line comment aside.
pub no_piece_but_line : (mode : Mode) (input : Input) (state : State) (bytes : List ℕ) → Describes mode state bytes →
    (state ≡ in_line → ⊥) → piece_len mode input bytes ≡ 0
no_piece_but_line mode input _ _ (Describes.text _ content e h) other = no_piece mode input quote content refl refl
no_piece_but_line mode input _ _ (Describes.escape _ content e h) other = no_piece mode input quote _ refl refl
no_piece_but_line mode input _ [] (Describes.literal _ _ others kind is some more) other = refl
no_piece_but_line mode input _ (b ∷ front) (Describes.literal _ _ others kind is some more) other =
    let byte = literal_byte b _ (front ++ others) kind is refl in
    no_piece mode input b front byte.0 byte.1
no_piece_but_line mode input _ [] (Describes.number _ part _ i) other = refl
no_piece_but_line mode input _ (b ∷ text) (Describes.number _ part _ i) other =
    let byte = number_byte b (begins_number-is (b ∷ text) i.hint i.numeral) in
    no_piece mode input b text byte.0 byte.1
no_piece_but_line _ input _ _ Describes.slash_alone other = refl
no_piece_but_line _ input _ _ (Describes.line body h) other = absurd (other refl)
no_piece_but_line _ input _ _ (Describes.block body after_star h is) other = ap with_mark (opens_block-none body h)

-- Nor is a line comment in a buffer that may grow.
pub open_no_piece : (mode : Mode) (state : State) (bytes : List ℕ) → Describes mode state bytes →
    piece_len mode growing bytes ≡ 0
open_no_piece _ _ _ (Describes.line body h) = ap (with_line_mark growing body) (opens_line-none body h)
open_no_piece mode _ _ (Describes.text _ content e h) = no_piece mode growing quote content refl refl
open_no_piece mode _ _ (Describes.escape _ content e h) = no_piece mode growing quote _ refl refl
open_no_piece mode _ bytes (Describes.literal _ _ others kind is some more) =
    no_piece_but_line mode growing in_word bytes (Describes.literal mode bytes others kind is some more) (λ e. cc)
open_no_piece mode _ bytes (Describes.number _ part _ i) =
    no_piece_but_line mode growing (in_number part) bytes (Describes.number mode part bytes i) (λ e. cc)
open_no_piece _ _ _ Describes.slash_alone = refl
open_no_piece _ _ _ (Describes.block body after_star h is) = ap with_mark (opens_block-none body h)

-- Nor is a string that goes on.
pub text_no_piece : (mode : Mode) (escaped e : Bool) (bytes rest : List ℕ) → Describes mode (in_text escaped e) bytes →
    piece_len mode growing (bytes ++ rest) ≡ 0
text_no_piece mode _ _ _ rest (Describes.text _ content e h) = no_piece mode growing quote (content ++ rest) refl refl
text_no_piece mode _ _ _ rest (Describes.escape _ content e h) = no_piece mode growing quote _ refl refl
