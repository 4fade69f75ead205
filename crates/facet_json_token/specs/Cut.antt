-- What is cut off at a position: the gap there, and then a token or a fault (RFC 8259, section 2).
use Rattle.std.specs.Prelude.{ℕ, suc, ◌+◌, Bool, true, false, cond, ◌==◌, List, [], ◌∷◌, length, take, drop, Option, Some, None, codes, slice_get}
use Rattle.std.specs.List.{list_any}
use Rattle.facet_format.specs.Bytes.{quote, backslash, slash, star, left_brace, right_brace, left_bracket, right_bracket, lower_f, lower_n, lower_t}
use Rattle.facet_format.specs.Bytes as bytes
use Rattle.facet_json_token.specs.Gap.{Mode, plain, jsonc, whole}
use Rattle.facet_json_token.specs.GapLen.{gap_len, one_more}
use Rattle.facet_format.specs.Number.{Hint}
use Rattle.facet_format.specs.NumberParts.{parts, parts_len, parts_hint, is_bare, starts_number}
use Rattle.facet_format.specs.Span.{span_at}
use Rattle.facet_json_token.specs.Token.{Kind, object_start, object_end, array_start, array_end, colon, comma, null, true_literal, false_literal, string, number, Token, FaultKind, unexpected_char, unexpected_eof, Fault, in_string, in_number, in_literal, in_block_comment}

-- ---- what is cut

pub data Cut : Type 0 where
  nothing_left : Cut
  token : Token → Cut
  fault : Fault → Cut

-- what a byte may begin
pub data Start : Type 0 where
  punctuation : Kind → Start
  letter : List ℕ → Kind → Start
  opens_text : Start
  opens_number : Start
  opens_comment : Start
  opens_nothing : Start

unfoldable pub start_of : ℕ → Start
start_of b =
    cond (b == left_brace) (punctuation object_start) (cond (b == right_brace) (punctuation object_end)
    (cond (b == left_bracket) (punctuation array_start) (cond (b == right_bracket) (punctuation array_end)
    (cond (b == bytes.colon) (punctuation colon) (cond (b == bytes.comma) (punctuation comma)
    (cond (b == quote) opens_text (cond (b == lower_n) (letter (codes "null") null)
    (cond (b == lower_t) (letter (codes "true") true_literal) (cond (b == lower_f) (letter (codes "false") false_literal)
    (cond (starts_number b) opens_number (cond (b == slash) opens_comment opens_nothing)))))))))))

abbrev pub token_at : Kind → ℕ → ℕ → Cut
token_at kind offset len = token (record { kind = kind; span = span_at offset len })

abbrev pub fault_at : FaultKind → ℕ → ℕ → Cut
fault_at kind offset len = fault (record { kind = kind; span = span_at offset len })

-- the length of the longest prefix of the bytes that is a prefix of the word
abbrev pub common_len : List ℕ → List ℕ → ℕ
common_len [] bytes = 0
common_len (w ∷ word) [] = 0
common_len (w ∷ word) (b ∷ bytes) = cond (b == w) (suc (common_len word bytes)) 0

-- a word of which the bytes begin with this many of its letters
abbrev pub cut_word : ℕ → List ℕ → List ℕ → Kind → ℕ → Cut
cut_word at bytes word kind n =
    cond (n == length word) (token_at kind at n)
    (elim (slice_get bytes n) [ None ↦ fault_at (unexpected_eof in_literal) at n | Some b ↦ fault_at (unexpected_char b) (at + n) 1 ])

-- how many bytes of the content stand before the first quote that no backslash escapes, where the first byte is escaped or not
abbrev pub content_len : Bool → List ℕ → Option ℕ
content_len escaped [] = None
content_len true (b ∷ bytes) = one_more (content_len false bytes)
content_len false (b ∷ bytes) = cond (b == quote) (Some 0) (one_more (content_len (b == backslash) bytes))

-- whether a backslash stands in the content
abbrev pub has_backslash : List ℕ → Bool
has_backslash content = list_any (λ b. b == backslash) content

-- a string with this content, where its quote is followed by these bytes
abbrev pub cut_text : ℕ → List ℕ → Option ℕ → Cut
cut_text at bytes None = fault_at (unexpected_eof in_string) at (suc (length bytes))
cut_text at bytes (Some n) = token_at (string (suc at) (suc at + n) (has_backslash (take n bytes))) at (suc (suc n))

abbrev pub cut_bare_minus : ℕ → List ℕ → Cut
cut_bare_minus at [] = fault_at (unexpected_eof in_number) at 1
cut_bare_minus at (b ∷ bytes) = fault_at (unexpected_char b) at 1

-- a number with these parts, where its first byte is followed by these bytes
abbrev pub cut_number : ℕ → List ℕ → ℕ → Hint → Bool → Cut
cut_number at bytes n hint true = cut_bare_minus at bytes
cut_number at bytes n hint false = token_at (number at (at + n) hint) at n

-- a slash before these bytes, where no closed comment stands
abbrev pub cut_slash : Mode → ℕ → List ℕ → Cut
cut_slash plain at bytes = fault_at (unexpected_char slash) at 1
cut_slash jsonc at [] = fault_at (unexpected_char slash) at 1
cut_slash jsonc at (b ∷ bytes) = cond (b == star) (fault_at (unexpected_eof in_block_comment) at (suc (suc (length bytes)))) (fault_at (unexpected_char slash) at 1)

abbrev pub cut_by : Start → Mode → ℕ → ℕ → List ℕ → Cut
cut_by (punctuation kind) mode at b bytes = token_at kind at 1
cut_by (letter letters kind) mode at b bytes = cut_word at (b ∷ bytes) letters kind (common_len letters (b ∷ bytes))
cut_by opens_text mode at b bytes = cut_text at bytes (content_len false bytes)
cut_by opens_number mode at b bytes =
    let p = parts (b ∷ bytes) in
    cut_number at bytes (parts_len p) (parts_hint p) (is_bare p)
cut_by opens_comment mode at b bytes = cut_slash mode at bytes
cut_by opens_nothing mode at b bytes = fault_at (unexpected_char b) at 1

-- what is cut at offset `at`, where these bytes stand and no gap is before it
unfoldable pub cut_here : Mode → ℕ → List ℕ → Cut
cut_here mode at [] = nothing_left
cut_here mode at (b ∷ bytes) = cut_by (start_of b) mode at b bytes

-- where the gap at a position ends
abbrev pub past_gap : List ℕ → ℕ → Mode → ℕ
past_gap buffer position mode = position + gap_len mode whole (drop position buffer)

-- what is cut at a position of the buffer, which is the whole input
unfoldable pub cut : List ℕ → ℕ → Mode → Cut
cut buffer position mode = cut_here mode (past_gap buffer position mode) (drop (past_gap buffer position mode) buffer)
