-- What is cut where a byte stands that begins a token, a comment or nothing.
use Rattle.std.proofs.Common.{◌≡◌, ◌≢◌, ℕ, suc, ◌+◌, ◌<◌, ◌≤◌, ◌⊎◌, inl, inr, Bool, true, false, cond, eqb, nat_le, List, [], ◌∷◌, length, drop, slice_get, Option, Some, None, Result, Ok, Err, IfOk, refl, ap, sym, ◌∙◌, arith}
use Rattle.std.proofs.lemmas.Bool.{ne_eqb, eq-eqb, cases_eq, le-leb, lt-leb, and_from, and_left, and_right, or_from, or_left, or_right}
use Rattle.facet_format.specs.Bytes.{left_brace, right_brace, left_bracket, right_bracket, colon, comma, quote, slash, star, minus, lower_n, lower_t, lower_f, is_digit}
use Rattle.facet_json_token.specs.Gap.{Mode, plain, jsonc}
use Rattle.facet_format.specs.Number.{Hint}
use Rattle.facet_format.specs.NumberParts.{parts, parts_len, parts_hint, is_bare, starts_number}
use Rattle.facet_json_token.specs.Token.{Kind, unexpected_char, unexpected_eof, in_literal, in_block_comment}
use Rattle.facet_json_token.specs.Token as kinds
use Rattle.facet_json_token.specs.Shape.{IsStructural, object_starts, object_ends, array_starts, array_ends, colon_stands, comma_stands}
use Rattle.facet_json_token.specs.Cut.{Cut, nothing_left, Start, punctuation, letter, opens_text, opens_number, opens_comment, opens_nothing, start_of, token_at, fault_at, common_len, content_len, cut_word, cut_text, cut_number, cut_slash, cut_by, cut_here}
use Rattle.facet_json_token.specs.declared.token.Token.TheVariants as code
use Rattle.facet_json_token.specs.declared.token.SpannedToken.{SpannedToken}
use Rattle.facet_json_token.specs.declared.fault.Fault.{Fault as RustFault}
use Rattle.facet_json_token.specs.Views.{cut_of, token_answer}
use Rattle.facet_json_token.proofs.Offsets.{drop-at_byte}
use Rattle.facet_json_token.proofs.Starts.{start_of-number}
use Rattle.facet_json_token.proofs.NumberCuts.{number_at}

-- what a byte begins is cut there
pub cut_here-by : (mode : Mode) (buffer : List ℕ) (at b : ℕ) (start : Start) → slice_get buffer at ≡ Some b →
    start_of b ≡ start → cut_by start mode at b (drop (at + 1) buffer) ≡ cut_here mode at (drop at buffer)
unfolding cut_here
cut_here-by mode buffer at b start h e =
    ap (λ s. cut_by s mode at b (drop (at + 1) buffer)) (sym e)
    ∙ ap (cut_here mode at) (sym (drop-at_byte buffer at b h))

-- a byte that begins no punctuation, text or letters
start_of-others : (b : ℕ) → b ≢ left_brace → b ≢ right_brace → b ≢ left_bracket → b ≢ right_bracket → b ≢ colon →
    b ≢ comma → b ≢ quote → b ≢ lower_n → b ≢ lower_t → b ≢ lower_f →
    start_of b ≡ cond (starts_number b) opens_number (cond (eqb b slash) opens_comment opens_nothing)
unfolding start_of
start_of-others b h0 h1 h2 h3 h4 h5 h6 h7 h8 h9 =
    rw (
      ne_eqb b left_brace h0,
      ne_eqb b right_brace h1,
      ne_eqb b left_bracket h2,
      ne_eqb b right_bracket h3,
      ne_eqb b colon h4,
      ne_eqb b comma h5,
      ne_eqb b quote h6,
      ne_eqb b lower_n h7,
      ne_eqb b lower_t h8,
      ne_eqb b lower_f h9,
    )
    refl

-- a minus or a digit, by its range
pub starts_number-range : (b : ℕ) → minus ≤ b → b ≤ 0x39 → b ≢ 0x2e → b ≢ slash → starts_number b ≡ true
starts_number-range b low high no_dot no_slash =
    let digit : b ≢ minus → is_digit b ≡ true =
    λ n. and_from (nat_le 0x30 b) (nat_le b 0x39) (le-leb 0x30 b (omega arith)) (le-leb b 0x39 high) in
    elim (cases_eq b minus) [
      | inl e ↦ or_left (eqb b minus) (is_digit b) (eq-eqb b minus e)
      | inr n ↦ or_right (eqb b minus) (is_digit b) (digit n)
    ]

-- it begins a number
pub start_of-number_range : (b : ℕ) → minus ≤ b → b ≤ 0x39 → b ≢ 0x2e → b ≢ slash → start_of b ≡ opens_number
start_of-number_range b low high no_dot no_slash =
    start_of-number b (starts_number-range b low high no_dot no_slash)

-- any other byte that stands for nothing alone begins nothing
pub start_of-nothing : (b : ℕ) → ((kind : Kind) → IsStructural b kind → ⊥) → b ≢ quote → b ≢ lower_n → b ≢ lower_t → b ≢ lower_f →
    b ≢ minus → b ≢ slash → (b < 0x30) ⊎ (0x39 < b) → start_of b ≡ opens_nothing
start_of-nothing b no_mark h6 h7 h8 h9 no_minus no_slash no_digit =
    let digit : is_digit b ≡ false =
    elim no_digit [
      | inl low ↦ and_left (nat_le 0x30 b) (nat_le b 0x39) (lt-leb 0x30 b low)
      | inr high ↦ and_right (nat_le 0x30 b) (nat_le b 0x39) (lt-leb b 0x39 high)
    ] in
    let starts : starts_number b ≡ false = or_from (eqb b minus) (is_digit b) (ne_eqb b minus no_minus) digit in
    start_of-others b (λ e. no_mark kinds.object_start (rw e object_starts)) (λ e. no_mark kinds.object_end (rw e object_ends))
    (λ e. no_mark kinds.array_start (rw e array_starts)) (λ e. no_mark kinds.array_end (rw e array_ends))
    (λ e. no_mark kinds.colon (rw e colon_stands)) (λ e. no_mark kinds.comma (rw e comma_stands)) h6 h7 h8 h9
    ∙ ap (λ v. cond v opens_number (cond (eqb b slash) opens_comment opens_nothing)) starts
    ∙ ap (λ v. cond v opens_comment opens_nothing) (ne_eqb b slash no_slash)

-- a word that is all there is cut as its token
pub cut_word-is : (at : ℕ) (bytes word : List ℕ) (kind : Kind) (n : ℕ) → n ≡ length word →
    cut_word at bytes word kind n ≡ token_at kind at (length word)
cut_word-is at bytes word kind n e = rw (eq-eqb n (length word) e) (ap (token_at kind at) e)

-- a letter begins a literal
pub cut_here-word : (mode : Mode) (buffer : List ℕ) (at b : ℕ) (word : List ℕ) (kind : Kind) →
    slice_get buffer at ≡ Some b → start_of b ≡ letter word kind →
    cut_word at (drop at buffer) word kind (common_len word (drop at buffer)) ≡ cut_here mode at (drop at buffer)
cut_here-word mode buffer at b word kind h e =
    ap (λ l. cut_word at l word kind (common_len word l)) (drop-at_byte buffer at b h)
    ∙ cut_here-by mode buffer at b (letter word kind) h e

-- a minus or a digit begins a number
pub cut_here-number : (mode : Mode) (buffer : List ℕ) (at b : ℕ) → slice_get buffer at ≡ Some b →
    start_of b ≡ opens_number →
    number_at at (drop (at + 1) buffer) (parts (drop at buffer)) ≡ cut_here mode at (drop at buffer)
cut_here-number mode buffer at b h e =
    ap (λ l. number_at at (drop (at + 1) buffer) (parts l)) (drop-at_byte buffer at b h)
    ∙ cut_here-by mode buffer at b opens_number h e

-- ---- where a byte stands, something is cut

word_something : (at n : ℕ) (kind : Kind) (whole : Bool) (next : Option ℕ) →
    cond whole (token_at kind at n)
    (elim next [ None ↦ fault_at (unexpected_eof in_literal) at n | Some b ↦ fault_at (unexpected_char b) (at + n) 1 ])
    ≢ nothing_left
word_something at n kind true next e = cc
word_something at n kind false None e = cc
word_something at n kind false (Some b) e = cc

text_something : (at : ℕ) (bytes : List ℕ) (found : Option ℕ) → cut_text at bytes found ≢ nothing_left
text_something at bytes None e = cc
text_something at bytes (Some n) e = cc

number_something : (at : ℕ) (bytes : List ℕ) (n : ℕ) (hint : Hint) (bare : Bool) →
    cut_number at bytes n hint bare ≢ nothing_left
number_something at [] n hint true e = cc
number_something at (b ∷ bytes) n hint true e = cc
number_something at bytes n hint false e = cc

slash_something : (mode : Mode) (at : ℕ) (bytes : List ℕ) → cut_slash mode at bytes ≢ nothing_left
slash_something plain at bytes e = cc
slash_something jsonc at [] e = cc
slash_something jsonc at (b ∷ bytes) e = opened (eqb b star) e
  where
    opened : (v : Bool) → cond v (fault_at (unexpected_eof in_block_comment) at (suc (suc (length bytes))))
        (fault_at (unexpected_char slash) at 1) ≢ nothing_left
    opened true h = cc
    opened false h = cc

cut_by-something : (start : Start) (mode : Mode) (at b : ℕ) (bytes : List ℕ) →
    cut_by start mode at b bytes ≢ nothing_left
cut_by-something (punctuation kind) mode at b bytes e = cc
cut_by-something (letter letters kind) mode at b bytes e =
    let n = common_len letters (b ∷ bytes) in word_something at n kind (eqb n (length letters))
    (slice_get (b ∷ bytes) n) e
cut_by-something opens_text mode at b bytes e = text_something at bytes (content_len false bytes) e
cut_by-something opens_number mode at b bytes e =
    let p = parts (b ∷ bytes) in number_something at bytes (parts_len p) (parts_hint p) (is_bare p) e
cut_by-something opens_comment mode at b bytes e = slash_something mode at bytes e
cut_by-something opens_nothing mode at b bytes e = cc

-- where a byte stands, a token or a fault is cut
pub cut_here-something : (mode : Mode) (buffer : List ℕ) (at b : ℕ) → slice_get buffer at ≡ Some b →
    cut_here mode at (drop at buffer) ≢ nothing_left
cut_here-something mode buffer at b h e =
    cut_by-something (start_of b) mode at b (drop (at + 1) buffer)
    (cut_here-by mode buffer at b (start_of b) h refl ∙ e)

-- an answer that isn't the end is no end
pub no_end : (answer : Result SpannedToken RustFault) (cut : Cut) (P : SpannedToken → Type 0) →
    cut_of answer ≡ Some cut → cut ≢ nothing_left → IfOk answer (λ t. t.token ≡ code.Eof → P t)
no_end (Ok t) cut P e n =
    λ eof. absurd (n (let same : Some cut ≡ Some nothing_left = sym e ∙ ap (token_answer t.span) eof in cc))
no_end (Err f) cut P e n = tt
