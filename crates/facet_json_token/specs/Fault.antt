-- What is wrong with a string's content that stands for no text: its first fault from the left (RFC 8259, section 7; UTF-8 by
-- section 8.1).
use Rattle.std.specs.Prelude.{◌≡◌, ◌<◌, ℕ, ◌+◌, Bool, true, false, ◌==◌, ◌&&◌, nat_lt, List, [], ◌∷◌, ◌++◌, length, Some, None, codes}
use Rattle.std.specs.Str.{StartsWithNoChar}
use Rattle.facet_format.specs.Bytes.{backslash, lower_u}
use Rattle.facet_format.specs.Complaint.{Complaint, unexpected_char, unexpected_eof, invalid_utf8, Refusal, refusal_at}
use Rattle.facet_format.specs.Span.{Span, span_at}
use Rattle.facet_json_token.specs.Decode.{code_unit, is_high_surrogate, is_low_surrogate, Piece}

pub data DecodeFaultKind : Type 0 where
  -- the content ends after a backslash
  ends_in_escape : DecodeFaultKind
  -- it ends before the fourth byte after `\u`
  ends_in_digits : DecodeFaultKind
  -- four bytes that should be hexadecimal digits are not
  not_digits : DecodeFaultKind
  -- half of a surrogate pair, or a byte at which no character begins whole
  no_character : DecodeFaultKind

-- what is wrong, and with which bytes, counted from the start of the content
pub record DecodeFault : Type 0 where
  pub kind : DecodeFaultKind
  pub bytes : Span

abbrev pub decode_fault_at : DecodeFaultKind → ℕ → ℕ → DecodeFault
decode_fault_at kind offset len = record { kind = kind; bytes = span_at offset len }

-- the same fault, after so many bytes
abbrev pub fault_after : ℕ → DecodeFault → DecodeFault
fault_after n f = decode_fault_at f.kind (n + f.bytes.offset) f.bytes.len

-- whether a backslash, `u` and at least four bytes stand there
abbrev pub goes_on_unit : List ℕ → Bool
goes_on_unit (s ∷ u ∷ a ∷ b ∷ c ∷ d ∷ bytes) = (s == backslash) && (u == lower_u)
goes_on_unit _ = false

-- The bytes begin with this fault, and with no piece.
pub data FaultHere : List ℕ → DecodeFault → Type 0 where
  lone_backslash : FaultHere (backslash ∷ []) (decode_fault_at ends_in_escape 0 1)
  few_digits : (digits : List ℕ) → length digits < 4 →
      FaultHere (backslash ∷ lower_u ∷ digits) (decode_fault_at ends_in_digits 0 (2 + length digits))
  other_digits : (a b c d : ℕ) (bytes : List ℕ) → code_unit a b c d ≡ None →
      FaultHere (backslash ∷ lower_u ∷ a ∷ b ∷ c ∷ d ∷ bytes) (decode_fault_at not_digits 2 4)
  -- the first half of a pair, and no second escape after it
  high_alone : (a b c d high : ℕ) (bytes : List ℕ) → code_unit a b c d ≡ Some high → is_high_surrogate high ≡ true →
      goes_on_unit bytes ≡ false → FaultHere (backslash ∷ lower_u ∷ a ∷ b ∷ c ∷ d ∷ bytes) (decode_fault_at no_character 0 6)
  second_digits : (a b c d high e f g h : ℕ) (bytes : List ℕ) → code_unit a b c d ≡ Some high →
      is_high_surrogate high ≡ true → code_unit e f g h ≡ None →
      FaultHere (backslash ∷ lower_u ∷ a ∷ b ∷ c ∷ d ∷ backslash ∷ lower_u ∷ e ∷ f ∷ g ∷ h ∷ bytes) (decode_fault_at not_digits 8 4)
  -- the first half, and a second escape that is no second half
  second_other : (a b c d high e f g h u : ℕ) (bytes : List ℕ) → code_unit a b c d ≡ Some high →
      is_high_surrogate high ≡ true → code_unit e f g h ≡ Some u → is_low_surrogate u ≡ false →
      FaultHere (backslash ∷ lower_u ∷ a ∷ b ∷ c ∷ d ∷ backslash ∷ lower_u ∷ e ∷ f ∷ g ∷ h ∷ bytes) (decode_fault_at no_character 8 4)
  -- the second half of a pair comes first
  low_first : (a b c d low : ℕ) (bytes : List ℕ) → code_unit a b c d ≡ Some low → is_low_surrogate low ≡ true →
      FaultHere (backslash ∷ lower_u ∷ a ∷ b ∷ c ∷ d ∷ bytes) (decode_fault_at no_character 2 4)
  -- only ASCII characters can be escaped
  escaped_other : (b : ℕ) (bytes : List ℕ) → nat_lt b 0x80 ≡ false →
      FaultHere (backslash ∷ b ∷ bytes) (decode_fault_at no_character 1 1)
  not_utf8 : (b : ℕ) (bytes : List ℕ) → (b == backslash) ≡ false → StartsWithNoChar (b ∷ bytes) →
      FaultHere (b ∷ bytes) (decode_fault_at no_character 0 1)

-- The content is pieces, and then bytes that begin with the fault.
pub data FirstFault : List ℕ → DecodeFault → Type 0 where
  here : (content : List ℕ) (f : DecodeFault) → FaultHere content f → FirstFault content f
  after : (first others content : List ℕ) (c : ℕ) (later f : DecodeFault) → Piece first c → FirstFault others later →
      content ≡ first ++ others → f ≡ fault_after (length first) later → FirstFault content f

-- ---- how it is refused

abbrev pub fault_complaint : DecodeFaultKind → Complaint
fault_complaint ends_in_escape = unexpected_eof (codes "in escape sequence")
fault_complaint ends_in_digits = unexpected_eof (codes "in unicode escape")
fault_complaint not_digits = unexpected_char 0x3f (codes "valid JSON token")
fault_complaint no_character = invalid_utf8

-- the refusal of a content that starts there in the buffer
abbrev pub fault_refusal : ℕ → DecodeFault → Refusal
fault_refusal start f = refusal_at (fault_complaint f.kind) (span_at (start + f.bytes.offset) f.bytes.len)
