-- The scanner over a buffer that grows: what it keeps between two calls, and what a call answers.
use Rattle.std.specs.Prelude.{◌≡◌, ◌≢◌, ℕ, ◌+◌, ◌-◌, Bool, true, false, List, [], ◌∷◌, ◌++◌, length, take, drop, Option, Some, ◌==◌}
use Rattle.facet_format.specs.Bytes.{quote, backslash, slash, star}
use Rattle.facet_json_token.specs.Gap.{Mode, jsonc, growing, OpensBlock, OpensLine}
use Rattle.facet_json_token.specs.GapLen.{gap_len}
use Rattle.facet_format.specs.Number.{Hint, float, hint_by, IsNumeral}
use Rattle.facet_format.specs.NumberParts.{parts}
use Rattle.facet_format.specs.Span.{Span, stop, span_at}
use Rattle.facet_json_token.specs.Token.{Kind, Token, Fault}
use Rattle.facet_json_token.specs.Cut.{Cut, nothing_left, token, fault, past_gap, cut}
use Rattle.facet_json_token.specs.Shape.{ArePieces, IsLiteral}
use Rattle.facet_json_token.specs.Open.{IsOpen}

-- ---- what is kept

-- a part of a number
pub data NumberPart : Type 0 where
  -- the minus and the digits
  in_digits : NumberPart
  -- the dot and its digits
  in_fraction : NumberPart
  -- the exponent mark
  at_mark : NumberPart
  -- the exponent's sign and its digits
  in_exponent : NumberPart

-- how the open token or comment goes on
pub data State : Type 0 where
  -- whether a backslash escapes the next byte, and whether a backslash was seen
  in_text : (escaped has_escapes : Bool) → State
  in_word : State
  -- the part in which the last byte stands
  in_number : NumberPart → State
  after_slash : State
  in_line : State
  -- whether the last byte of the body is a star
  in_block : (after_star : Bool) → State

pub data Pending : Type 0 where
  nothing_pending : Pending
  -- the first byte of the open token or comment, and how it goes on
  pending_at : (start : ℕ) → State → Pending

-- where the scanner stands, which language it reads, and what is pending
pub record Scanner : Type 0 where
  pub position : ℕ
  pub mode : Mode
  pub pending : Pending

-- a scanner in full
abbrev pub scanner_at : ℕ → Mode → Pending → Scanner
scanner_at position mode pending = record { position = position; mode = mode; pending = pending }

-- a scanner with nothing pending
abbrev pub idle : ℕ → Mode → Scanner
idle position mode = record { position = position; mode = mode; pending = nothing_pending }

-- a scanner at this position, with an open token or comment
abbrev pub waiting : ℕ → Mode → ℕ → State → Scanner
waiting position mode start state = record { position = position; mode = mode; pending = pending_at start state }

-- ---- what the bytes so far say of the state

-- whether the last of the bytes is a star
abbrev pub ends_in_star : List ℕ → Bool
ends_in_star [] = false
ends_in_star (b ∷ []) = b == star
ends_in_star (b ∷ c ∷ bytes) = ends_in_star (c ∷ bytes)

-- the last part of a number with this fraction and this exponent, each of which may be missing
abbrev pub last_part : (fraction exponent : List ℕ) → NumberPart
last_part [] [] = in_digits
last_part (b ∷ fraction) [] = in_fraction
last_part fraction (mark ∷ []) = at_mark
last_part fraction (mark ∷ b ∷ power) = in_exponent

-- The text is a number, or a minus alone, and its last byte stands in this part.
pub record EndsIn (part : NumberPart) (text : List ℕ) : Type 0 where
  pub hint : Hint
  pub numeral : IsNumeral text hint
  pub last : part ≡ last_part numeral.fraction numeral.exponent

-- what stands in a number that ends in this part, after a minus or not
abbrev pub part_hint : NumberPart → Bool → Hint
part_hint in_digits has_minus = hint_by has_minus false false
part_hint in_fraction has_minus = float
part_hint at_mark has_minus = float
part_hint in_exponent has_minus = float

-- After each number that ends in the part this byte goes on with it, and stands in the next part.
abbrev pub ExtendsWith : NumberPart → ℕ → NumberPart → Type 0
ExtendsWith part b next = (text : List ℕ) → EndsIn part text → EndsIn next (text ++ b ∷ [])

-- Each number that ends in the part is the longest where this byte follows, whatever stands after.
abbrev pub EndsBefore : NumberPart → ℕ → Type 0
EndsBefore part b = (text rest : List ℕ) → EndsIn part text → parts (text ++ b ∷ rest) ≡ parts text

-- The bytes are an open token or comment, and the state says how it goes on.
pub data Describes : Mode → State → List ℕ → Type 0 where
  text : (mode : Mode) (content : List ℕ) (has_escapes : Bool) → ArePieces content has_escapes →
      Describes mode (in_text false has_escapes) (quote ∷ content)
  escape : (mode : Mode) (content : List ℕ) (has_escapes : Bool) → ArePieces content has_escapes →
      Describes mode (in_text true true) (quote ∷ content ++ backslash ∷ [])
  literal : (mode : Mode) (prefix others : List ℕ) (kind : Kind) → IsLiteral (prefix ++ others) kind → prefix ≢ [] →
      others ≢ [] → Describes mode in_word prefix
  number : (mode : Mode) (part : NumberPart) (text : List ℕ) → EndsIn part text → Describes mode (in_number part) text
  slash_alone : Describes jsonc after_slash (slash ∷ [])
  line : (body : List ℕ) → OpensLine body → Describes jsonc in_line (slash ∷ slash ∷ body)
  block : (body : List ℕ) (after_star : Bool) → OpensBlock body → ends_in_star body ≡ after_star →
      Describes jsonc (in_block after_star) (slash ∷ star ∷ body)

-- The scanner goes on from here: from its position if nothing is pending, else from the first byte of what is pending, if
-- that fits the buffer up to the position.
pub data GoesOnFrom (s : Scanner) (buffer : List ℕ) : ℕ → Type 0 where
  idles : s.pending ≡ nothing_pending → GoesOnFrom s buffer s.position
  resumes : (start : ℕ) (state : State) → s.pending ≡ pending_at start state →
      Describes s.mode state (drop start (take s.position buffer)) → GoesOnFrom s buffer start

-- ---- what is answered

pub data ScanAnswer : Type 0 where
  -- more bytes may change what stands there: the first byte of it, and its bytes so far
  needs_more : (consumed : ℕ) → Span → ScanAnswer
  ended : Span → ScanAnswer
  cuts : Token → ScanAnswer
  refuses : Fault → ScanAnswer

-- the answer of what is cut, where the input ends at `last`
abbrev pub answer_for : ℕ → Cut → ScanAnswer
answer_for last nothing_left = ended (span_at last 0)
answer_for last (token t) = cuts t
answer_for last (fault f) = refuses f

-- where the scanner stands after what is cut from p on: after the token, or at the first byte of what is refused
abbrev pub stands_after : List ℕ → ℕ → Mode → Cut → ℕ
stands_after buffer p mode nothing_left = length buffer
stands_after buffer p mode (token t) = stop t.span
stands_after buffer p mode (fault f) = past_gap buffer p mode

-- where the gap of a growing buffer ends
abbrev pub past_growing_gap : List ℕ → ℕ → Mode → ℕ
past_growing_gap buffer position mode = position + gap_len mode growing (drop position buffer)

-- The answer of a call that goes on from p, and the scanner that it leaves: more is needed exactly where the buffer is open.
pub data Gives (buffer : List ℕ) (p : ℕ) (mode : Mode) (answer : Option ScanAnswer) (new : Scanner) : Type 0 where
  still_open : (state : State) → IsOpen buffer p mode →
      Describes mode state (drop (past_growing_gap buffer p mode) buffer) →
      answer ≡ Some (needs_more (past_growing_gap buffer p mode)
      (span_at (past_growing_gap buffer p mode) (length buffer - past_growing_gap buffer p mode))) →
      new ≡ waiting (length buffer) mode (past_growing_gap buffer p mode) state → Gives buffer p mode answer new
  decided : (IsOpen buffer p mode → ⊥) → answer ≡ Some (answer_for (length buffer) (cut buffer p mode)) →
      new ≡ idle (stands_after buffer p mode (cut buffer p mode)) mode → Gives buffer p mode answer new

-- the first byte of what is pending, or the position
abbrev pub first_byte_of : ℕ → Pending → ℕ
first_byte_of position nothing_pending = position
first_byte_of position (pending_at start state) = start

abbrev pub first_unread : Scanner → ℕ
first_unread s = first_byte_of s.position s.pending

-- where the scanner stands where no more bytes follow these: where it stood, or at the first byte of what is refused
abbrev pub stands_at_end : Scanner → List ℕ → Cut → ℕ
stands_at_end s bytes nothing_left = s.position
stands_at_end s bytes (token t) = s.position
stands_at_end s bytes (fault f) = past_gap bytes (first_unread s) s.mode
