-- Events, in which a document is read (RFC 8259, sections 3 to 7).
use Rattle.std.specs.Prelude.{ℕ, ℤ, Bool, true, false, List}
use Rattle.facet_format.specs.Span.{Span}

pub data ContainerKind : Type 0 where
  object : ContainerKind
  array : ContainerKind

-- the bytes of a text, in UTF-8: a part of the input, or made
pub data Text : Type 0 where
  borrowed : List ℕ → Text
  owned : List ℕ → Text

pub data Scalar : Type 0 where
  null : Scalar
  unit : Scalar
  bool : Bool → Scalar
  char : ℕ → Scalar
  i64 : ℤ → Scalar
  u64 : ℕ → Scalar
  i128 : ℤ → Scalar
  u128 : ℕ → Scalar
  -- a number's text
  decimal : Text → Scalar
  text : Text → Scalar
  bytes : List ℕ → Scalar

pub data EventKind : Type 0 where
  struct_start : ContainerKind → EventKind
  struct_end : EventKind
  sequence_start : ContainerKind → EventKind
  sequence_end : EventKind
  field_key : Text → EventKind
  scalar : Scalar → EventKind

pub record Event : Type 0 where
  pub kind : EventKind
  pub span : Span

-- an event, with the span of its last token: of a key's that is the colon, of another's the token that it comes from
pub record Passed : Type 0 where
  pub event : Event
  pub last : Span

-- the bytes of a text
abbrev pub bytes_of : Text → List ℕ
bytes_of (borrowed t) = t
bytes_of (owned t) = t

-- the text is made
abbrev pub is_owned : Text → Bool
is_owned (borrowed t) = false
is_owned (owned t) = true

-- the scalar holds a text that is made
abbrev pub is_made : Scalar → Bool
is_made null = false
is_made unit = false
is_made (bool b) = false
is_made (char c) = false
is_made (i64 n) = false
is_made (u64 n) = false
is_made (i128 n) = false
is_made (u128 n) = false
is_made (decimal t) = is_owned t
is_made (text t) = is_owned t
is_made (bytes b) = false

-- an event of this kind holds a text that is made
abbrev pub holds_made : EventKind → Bool
holds_made (struct_start kind) = false
holds_made struct_end = false
holds_made (sequence_start kind) = false
holds_made sequence_end = false
holds_made (field_key name) = is_owned name
holds_made (scalar value) = is_made value

-- an event of this kind may allocate: a container to remember, or a text to make
abbrev pub takes_memory : EventKind → Bool
takes_memory (struct_start kind) = true
takes_memory struct_end = false
takes_memory (sequence_start kind) = true
takes_memory sequence_end = false
takes_memory (field_key name) = is_owned name
takes_memory (scalar value) = is_made value

-- a peek of such an event may allocate: to read the event, and to copy a text that is made; an event that was peeked at is read already
abbrev pub peek_takes_memory : Bool → EventKind → Bool
peek_takes_memory false kind = takes_memory kind
peek_takes_memory true kind = holds_made kind
