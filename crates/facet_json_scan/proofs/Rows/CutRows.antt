-- Single inputs with what is cut of them, their tokens, and whether more bytes may change what is cut, by computation.
-- In the texts of this file a backslash or a quote stands after a backslash of its own.
use Rattle.std.proofs.Common.{◌≡◌, ◌≢◌, ℕ, true, false, List, [], ◌∷◌, ◌++◌, refl, codes, arith}
use Rattle.facet_format.specs.Bytes.{slash, star, left_bracket, right_bracket, dot, line_feed}
use Rattle.facet_json_token.specs.Gap.{Mode, plain, jsonc, OpensBlock, OpensLine}
use Rattle.facet_json_token.specs.GapLen.{gap_len_from}
use Rattle.facet_format.specs.Number.{unsigned, signed, float}
use Rattle.facet_format.specs.NumberParts.{parts}
use Rattle.facet_json_token.specs.Token.{Kind, Token, object_start, object_end, array_start, array_end, colon, comma, null, true_literal, string, number, unexpected_char, unexpected_eof, in_string, in_number, in_literal, in_block_comment}
use Rattle.facet_json_token.specs.Cut.{nothing_left, start_of, token_at, fault_at, cut_here, cut}
use Rattle.facet_json_token.specs.Shape.{ArePieces, IsLiteral}
use Rattle.facet_format.specs.Span.{span_at}
use Rattle.facet_json_token.specs.Tokens.{ended, refused, next, AreCuts}
use Rattle.facet_json_token.specs.TokenList.{tokens_past, tokens}
use Rattle.facet_json_token.specs.Open.{IsBeginning, IsOpen}
use Rattle.facet_json_token.specs.OpenTest.{is_beginning, is_open}
use Rattle.facet_format.proofs.NumberLaws.{is_number-sound}
use Rattle.facet_json_token.specs.Faults.{IsFault}
use Rattle.facet_json_scan.proofs.OpenIsTested.{open_is_tested}
use Rattle.facet_json_scan.proofs.FaultIsCut.{fault_is_cut}

-- a token of this kind, with this span
abbrev token_of : Kind → ℕ → ℕ → Token
token_of kind offset len = record { kind = kind; span = span_at offset len }

-- ---- literals

literals :
    -- What follows the letters of a literal is not looked at.
    (cut (codes "truex") 0 plain ≡ token_at true_literal 0 4)
    -- The first letter that differs is the fault.
    × (cut (codes "trux") 0 plain ≡ fault_at (unexpected_char 0x78) 3 1)
    -- A literal may not end with the input.
    × (cut (codes "tru") 0 plain ≡ fault_at (unexpected_eof in_literal) 0 3)
    -- Nor may this one.
    × (cut (codes "nul") 0 plain ≡ fault_at (unexpected_eof in_literal) 0 3)
    -- Nor this.
    × (cut (codes "fals") 0 plain ≡ fault_at (unexpected_eof in_literal) 0 4)
unfolding cut cut_here start_of parts gap_len_from
literals = (refl, refl, refl, refl, refl)

-- ---- numbers

numbers :
    -- A minus is no number.
    (cut (codes "-") 0 plain ≡ fault_at (unexpected_eof in_number) 0 1)
    -- What follows a minus alone is the fault, shown at the minus.
    × (cut (codes "-x") 0 plain ≡ fault_at (unexpected_char 0x78) 0 1)
    -- A dot begins nothing.
    × (cut (codes ".5") 0 plain ≡ fault_at (unexpected_char dot) 0 1)
    -- No digit need follow a dot.
    × (cut (codes "1.") 0 plain ≡ token_at (number 0 2 float) 0 2)
    -- Nor need one stand before it.
    × (cut (codes "-.5") 0 plain ≡ token_at (number 0 3 float) 0 3)
    -- No digit need follow an exponent mark.
    × (cut (codes "1e") 0 plain ≡ token_at (number 0 2 float) 0 2)
    -- A fraction may be a dot alone.
    × (cut (codes "1.e5") 0 plain ≡ token_at (number 0 4 float) 0 4)
    -- Leading zeros may stand.
    × (cut (codes "007") 0 plain ≡ token_at (number 0 3 unsigned) 0 3)
    -- A minus and digits.
    × (cut (codes "-42]") 0 plain ≡ token_at (number 0 3 signed) 0 3)
unfolding cut cut_here start_of parts gap_len_from
numbers = (refl, refl, refl, refl, refl, refl, refl, refl, refl)

-- ---- strings

strings :
    -- A string may not end with the input.
    (cut (codes "\"abc") 0 plain ≡ fault_at (unexpected_eof in_string) 0 4)
    -- An escaped quote ends no string.
    × (cut (codes "\"a\\\"b\"") 0 plain ≡ token_at (string 1 5 true) 0 6)
    -- Nor does the end of the input after a backslash.
    × (cut (codes "\"a\\") 0 plain ≡ fault_at (unexpected_eof in_string) 0 3)
    -- An escape never jumps over the closing quote.
    × (cut (codes "\"\\u12\"") 0 plain ≡ token_at (string 1 5 true) 0 6)
    -- Any other byte may stand in a string.
    × (cut (codes "\"" ++ 0x00 ∷ 0xff ∷ codes "\"") 0 plain ≡ token_at (string 1 3 false) 0 4)
unfolding cut cut_here start_of parts gap_len_from
strings = (refl, refl, refl, refl, refl)

-- ---- slashes

slashes :
    -- A slash begins nothing.
    (cut (codes "/") 0 plain ≡ fault_at (unexpected_char slash) 0 1)
    -- Nor does it alone where comments may stand.
    × (cut (codes "/") 0 jsonc ≡ fault_at (unexpected_char slash) 0 1)
    -- Nor after a number.
    × (cut (codes "1/") 1 jsonc ≡ fault_at (unexpected_char slash) 1 1)
    -- In plain mode there are no comments.
    × (cut (codes "/**/1") 0 plain ≡ fault_at (unexpected_char slash) 0 1)
    -- One star does not both open and close.
    × (cut (codes "/*/") 0 jsonc ≡ fault_at (unexpected_eof in_block_comment) 0 3)
    -- The end of the input ends a line comment.
    × (cut (codes "//x") 0 jsonc ≡ nothing_left)
    -- A line feed does too, and is part of it.
    × (cut (codes "//x" ++ line_feed ∷ codes "1") 0 jsonc ≡ token_at (number 4 5 unsigned) 4 1)
    -- A block comment is a gap.
    × (cut (codes "/**/1") 0 jsonc ≡ token_at (number 4 5 unsigned) 4 1)
    -- So are two, and a space.
    × (cut (codes "/*a*//*b*/ 1") 0 jsonc ≡ token_at (number 11 12 unsigned) 11 1)
unfolding cut cut_here start_of parts gap_len_from
slashes = (refl, refl, refl, refl, refl, refl, refl, refl, refl)

-- ---- other bytes

other_bytes :
    -- A byte order mark begins nothing, and its first byte is the fault.
    (cut (0xef ∷ 0xbb ∷ 0xbf ∷ codes "1") 0 plain ≡ fault_at (unexpected_char 0xef) 0 1)
    -- White space alone is nothing.
    × (cut (codes " " ++ 0x09 ∷ line_feed ∷ 0x0d ∷ []) 0 plain ≡ nothing_left)
    -- So is nothing.
    × (cut (codes "") 0 plain ≡ nothing_left)
unfolding cut cut_here start_of parts gap_len_from
other_bytes = (refl, refl, refl)

-- ---- faults, by the relation

-- A literal that differs at its last byte.
wrong_letter_fault : IsFault 0 plain (codes "trux") (unexpected_char 0x78) (span_at 3 1)
wrong_letter_fault =
    IsFault.literal plain (codes "tru") [] [] 0x65 0x78 true_literal IsLiteral.true_stands (λ e. cc) (λ e. omega (arith, e))

-- One that the end cuts.
part_of_null_fault : IsFault 0 plain (codes "nul") (unexpected_eof in_literal) (span_at 0 3)
part_of_null_fault = IsFault.part plain (codes "nul") (codes "l") null IsLiteral.null_stands (λ e. cc) (λ e. cc)

-- A string that the end cuts after a backslash.
open_escape_fault : IsFault 0 plain (codes "\"a\\") (unexpected_eof in_string) (span_at 0 3)
open_escape_fault = IsFault.escape plain (codes "a") false (ArePieces.byte 0x61 [] false refl refl ArePieces.none)

-- A block comment that the end cuts, after another byte.
block_fault : IsFault 1 jsonc (codes "/*/") (unexpected_eof in_block_comment) (span_at 1 3)
block_fault = IsFault.block (codes "/") (OpensBlock.one slash)

-- A slash before a number.
slash_fault : IsFault 0 jsonc (codes "/1") (unexpected_char slash) (span_at 0 1)
slash_fault = IsFault.slash_before 0x31 [] (λ e. cc) (λ e. cc)

-- A minus before the end.
minus_fault : IsFault 0 plain (codes "-") (unexpected_eof in_number) (span_at 0 1)
minus_fault = IsFault.minus_last plain

-- A minus before a comma, which is named.
minus_and_comma_fault : IsFault 0 plain (codes "-,") (unexpected_char 0x2c) (span_at 0 1)
unfolding cut cut_here start_of parts gap_len_from
minus_and_comma_fault = (fault_is_cut (codes "-,") 0 plain (unexpected_char 0x2c) (span_at 0 1)).1 refl

-- A dot.
dot_fault : IsFault 0 plain (codes ".5") (unexpected_char dot) (span_at 0 1)
unfolding cut cut_here start_of parts gap_len_from
dot_fault = (fault_is_cut (codes ".5") 0 plain (unexpected_char dot) (span_at 0 1)).1 refl

-- ---- all tokens

all_tokens :
    -- A comma is a token, wherever it stands.
    (tokens (codes "[1,]") plain ≡
    next (token_of array_start 0 1) (next (token_of (number 1 2 unsigned) 1 1) (next (token_of comma 2 1) (
    next (token_of array_end 3 1) ended))))
    -- A fault stands after the tokens before it.
    × (tokens (codes "1 x") plain ≡
    next (token_of (number 0 1 unsigned) 0 1) (refused (record { kind = unexpected_char 0x78; span = span_at 2 1 })))
    -- The content of a string stands between its quotes.
    × (tokens (codes "{\"a\":1}") plain ≡
    next (token_of object_start 0 1) (next (token_of (string 2 3 false) 1 3) (next (token_of colon 4 1) (
    next (token_of (number 5 6 unsigned) 5 1) (next (token_of object_end 6 1) ended)))))
    -- A comment is in no token.
    × (tokens (codes "[1, /*c*/ 2]") jsonc ≡
    next (token_of array_start 0 1) (next (token_of (number 1 2 unsigned) 1 1) (next (token_of comma 2 1) (
    next (token_of (number 10 11 unsigned) 10 1) (next (token_of array_end 11 1) ended)))))
    -- A comment may hold a byte that is no UTF-8.
    × (tokens (left_bracket ∷ slash ∷ star ∷ 0xff ∷ star ∷ slash ∷ 0x31 ∷ right_bracket ∷ []) jsonc ≡
    next (token_of array_start 0 1) (next (token_of (number 6 7 unsigned) 6 1) (next (token_of array_end 7 1) ended)))
unfolding cut cut_here start_of parts gap_len_from tokens_past
all_tokens = (refl, refl, refl, refl, refl)

-- A token is cut where the one before ends, and then a fault.
cuts_to_a_fault_row : AreCuts (codes "1 x") plain 0
    (next (token_of (number 0 1 unsigned) 0 1) (refused (record { kind = unexpected_char 0x78; span = span_at 2 1 })))
unfolding cut cut_here start_of parts gap_len_from
cuts_to_a_fault_row = AreCuts.goes_on 0 _ _ refl (AreCuts.breaks_off 1 _ refl)

-- The end stands after the last, a comment before it.
cuts_to_the_end_row : AreCuts (codes "[]//") jsonc 1 (next (token_of array_end 1 1) ended)
unfolding cut cut_here start_of parts gap_len_from
cuts_to_the_end_row = AreCuts.goes_on 1 _ _ refl (AreCuts.ends 2 refl)

-- ---- where more bytes may change what is cut

-- A list with a first is not empty.
some : (b : ℕ) (bytes : List ℕ) → b ∷ bytes ≢ []
some b bytes e = cc

-- The prefix of a literal is open.
part_of_literal_open : IsOpen (codes "tr") 0 plain
unfolding gap_len_from
part_of_literal_open =
    IsBeginning.literal plain (codes "tr") (codes "ue") true_literal IsLiteral.true_stands (some _ _) (some _ _)

-- So is a string whose last byte is a backslash.
open_escape_open : IsOpen (codes "\"a\\") 0 plain
unfolding gap_len_from
open_escape_open =
    IsBeginning.escape plain (codes "a") false (ArePieces.byte 0x61 [] false refl refl ArePieces.none)

-- So is any other that doesn't end.
open_string_open : IsOpen (codes "\"a") 0 plain
unfolding gap_len_from
open_string_open =
    IsBeginning.text plain (codes "a") false (ArePieces.byte 0x61 [] false refl refl ArePieces.none)

-- So is a minus.
minus_open : IsOpen (codes "-") 0 plain
unfolding gap_len_from
minus_open = IsBeginning.minus_alone plain

-- A number is, since more digits may follow.
number_open : IsOpen (codes "42") 0 plain
unfolding gap_len_from parts
number_open = IsBeginning.number plain (codes "42") unsigned (is_number-sound (codes "42") unsigned refl)

-- So is one that ends with an exponent mark.
mark_last_open : IsOpen (codes "1.e") 0 plain
unfolding gap_len_from parts
mark_last_open = IsBeginning.number plain (codes "1.e") float (is_number-sound (codes "1.e") float refl)

-- A slash is where comments may stand.
slash_open : IsOpen (codes "1/") 1 jsonc
unfolding gap_len_from
slash_open = IsBeginning.slash_alone

-- So is a line comment without its line feed, which doesn't end with a buffer that may grow.
line_comment_open : IsOpen (codes "1//x") 1 jsonc
unfolding gap_len_from
line_comment_open = IsBeginning.line (codes "x") (OpensLine.more 0x78 [] refl OpensLine.nothing)

-- So is a block comment that isn't closed.
slash_star_slash_open : IsOpen (codes "/*/") 0 jsonc
unfolding gap_len_from
slash_star_slash_open = IsBeginning.block (codes "/") (OpensBlock.one slash)

-- White space in front is passed.
space_in_front_open : IsOpen (codes " nul") 0 plain
unfolding gap_len_from
space_in_front_open =
    IsBeginning.literal plain (codes "nul") (codes "l") null IsLiteral.null_stands (some _ _) (some _ _)

-- ---- where no more bytes do

-- What is tested not to be open isn't.
closed : (buffer : List ℕ) (position : ℕ) (mode : Mode) → is_open buffer position mode ≡ false →
    IsOpen buffer position mode → ⊥
closed buffer position mode e open_there = let tested = (open_is_tested buffer position mode).1 open_there in cc

closed_rows :
    -- After a number stands a byte that isn't part of it.
    (IsOpen (codes "42,") 0 plain → ⊥)
    -- A literal is closed with its last letter.
    × (IsOpen (codes "true") 0 plain → ⊥)
    -- A wrong letter is the fault under more bytes too.
    × (IsOpen (codes "trux") 0 plain → ⊥)
    -- A string is closed with its quote.
    × (IsOpen (codes "\"a\"") 0 plain → ⊥)
    -- A bracket stands alone.
    × (IsOpen (codes "[") 0 plain → ⊥)
    -- In plain mode a slash is a fault, whatever follows it.
    × (IsOpen (codes "/") 0 plain → ⊥)
    -- A line comment with its line feed is a gap, and nothing is after it.
    × (IsOpen (codes "//x" ++ line_feed ∷ []) 0 jsonc → ⊥)
    -- Nothing is no beginning.
    × (IsOpen (codes "") 0 plain → ⊥)
unfolding is_open is_beginning start_of gap_len_from parts
closed_rows = (
  closed (codes "42,") 0 plain refl,
  closed (codes "true") 0 plain refl,
  closed (codes "trux") 0 plain refl,
  closed (codes "\"a\"") 0 plain refl,
  closed (codes "[") 0 plain refl,
  closed (codes "/") 0 plain refl,
  closed (codes "//x" ++ line_feed ∷ []) 0 jsonc refl,
  closed (codes "") 0 plain refl,
)
