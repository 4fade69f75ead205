-- Where a format with one event ahead stands, and what its steps read: serde's `gives`, `picks` and `stays`.
use Rattle.std.specs.Prelude.{◌≡◌, ◌⊎◌, ℕ, ℤ, pos, Bool, true, false, List, Some, MatchBool, slice_range, ⊤}
use Rattle.std.specs.Char.{encode_utf8}
use Rattle.std.specs.Str.Parse.{true_text, false_text, IsNumeral, digits_value, signed_digits_value, without_leading_plus, without_leading_sign}
use Rattle.std.specs.Float.Ieee.{Float, Format, binary32, binary64}
use Rattle.std.specs.Float.Parse.{parse_float}
use Rattle.facet_format.specs.Event.{Event, EventKind, struct_start, struct_end, sequence_start, sequence_end, field_key, scalar, null, bool, i64, u64, decimal, text, bytes_of}
use Rattle.facet_format.specs.Span.{Span, stop}
use Rattle.facet_format.specs.Views.{event_of}
use Rattle.facet_json_grammar.specs.Now.{Now}
use Rattle.facet_json_grammar.specs.Next.{PassesNext}
use Rattle.serde.specs.Event as serde
use Rattle.serde.specs.Names.{Finds}
use Rattle.serde.specs.declared.name.Name.{Name}
use Rattle.facet_json_serde.specs.declared.json.Ahead.{Ahead}
use Rattle.facet_json_serde.specs.declared.json.Ahead.TheVariants as ahead
use Rattle.facet_json_serde.specs.declared.json.Json.{Json}

-- Before the event that is ahead, the parser stood there. A format that stopped stands nowhere.
abbrev pub StandsWithAhead : Ahead → Now → Now → Type 0
StandsWithAhead ahead.Nothing parser now = parser ≡ now
StandsWithAhead (ahead.Event held) parser now = PassesNext now (event_of held.0) parser
StandsWithAhead ahead.Back parser now = parser ≡ now
StandsWithAhead (ahead.Stopped kind span) parser now = ⊥

abbrev pub JsonStands : Json → Now → Type 0
JsonStands json now = StandsWithAhead json.ahead json.parser now

-- ---- what a step does to where it stands

-- Wherever the format stood, it stands there.
abbrev pub Stays : Json → Json → Type 0
Stays old new = (now : Now) → JsonStands old now → JsonStands new now

-- Wherever the format stood, such an event came next, and it stands after it.
abbrev pub StepReads : Json → (Event → Type 0) → Json → Type 0
StepReads old Is new = (now : Now) → JsonStands old now → (given : Event) × (after : Now) × JsonStands new after × PassesNext now given after × Is given

-- Wherever the format stood, such an event comes next, and it stands there.
abbrev pub StepShows : Json → (Event → Type 0) → Json → Type 0
StepShows old Is new = (now : Now) → JsonStands old now → (shown : Event) × (after : Now) × JsonStands new now × PassesNext now shown after × Is shown

-- The event came next, and the parser stands after it.
abbrev pub StepPasses : Json → Event → Json → Type 0
StepPasses old given new = (now : Now) → JsonStands old now → PassesNext now given new.parser

-- ---- which event of the parser's is which of serde's

-- a key of these bytes
abbrev pub HoldsKey : EventKind → List ℕ → Type 0
HoldsKey (field_key key) v = bytes_of key ≡ v
HoldsKey _ v = ⊥

-- a text of these bytes, as a value or as a key
abbrev pub HoldsText : EventKind → List ℕ → Type 0
HoldsText (scalar (text t)) v = bytes_of t ≡ v
HoldsText (field_key key) v = bytes_of key ≡ v
HoldsText _ v = ⊥

-- true, false, or a key of these letters
abbrev pub IsBool : EventKind → Bool → Type 0
IsBool (scalar (bool b)) v = b ≡ v
IsBool (field_key key) v = MatchBool v (bytes_of key ≡ true_text) (bytes_of key ≡ false_text)
IsBool _ v = ⊥

-- the text is the number, in decimal digits
abbrev pub WritesSigned : List ℕ → ℤ → Type 0
WritesSigned t v = IsNumeral 10 (without_leading_sign t) × (signed_digits_value 10 t ≡ v)

abbrev pub WritesUnsigned : List ℕ → ℕ → Type 0
WritesUnsigned t v = IsNumeral 10 (without_leading_plus t) × (digits_value 10 (without_leading_plus t) ≡ v)

-- a whole number, the digits of one past 64 bits, or a key that is one
abbrev pub IsSigned : EventKind → ℤ → Type 0
IsSigned (scalar (i64 n)) v = n ≡ v
IsSigned (scalar (u64 n)) v = pos n ≡ v
IsSigned (scalar (text digits)) v = WritesSigned (bytes_of digits) v
IsSigned (field_key key) v = WritesSigned (bytes_of key) v
IsSigned _ v = ⊥

abbrev pub IsUnsigned : EventKind → ℕ → Type 0
IsUnsigned (scalar (i64 n)) v = n ≡ pos v
IsUnsigned (scalar (u64 n)) v = n ≡ v
IsUnsigned (scalar (text digits)) v = WritesUnsigned (bytes_of digits) v
IsUnsigned (field_key key) v = WritesUnsigned (bytes_of key) v
IsUnsigned _ v = ⊥

-- the text of a number: a decimal's, a key's, or for a whole one the input's bytes there
abbrev pub IsNumberText : EventKind → List ℕ → List ℕ → Type 0
IsNumberText (scalar (decimal d)) there t = bytes_of d ≡ t
IsNumberText (scalar (i64 n)) there t = there ≡ t
IsNumberText (scalar (u64 n)) there t = there ≡ t
IsNumberText (scalar (text digits)) there t = there ≡ t
IsNumberText (field_key key) there t = bytes_of key ≡ t
IsNumberText _ there t = ⊥

abbrev pub bytes_at : List ℕ → Span → List ℕ
bytes_at input span = slice_range input span.offset (stop span)

-- the nearest float to the number
abbrev pub IsFloat : Format → List ℕ → Event → Float → Type 0
IsFloat format input given x = (t : List ℕ) × IsNumberText given.kind (bytes_at input given.span) t × (parse_float format t ≡ Some x)

abbrev pub AnyKey : EventKind → Type 0
AnyKey (field_key key) = ⊤
AnyKey _ = ⊥

abbrev pub IsListBegin : EventKind → Type 0
IsListBegin (sequence_start kind) = ⊤
IsListBegin _ = ⊥

abbrev pub IsMapBegin : EventKind → Type 0
IsMapBegin (struct_start kind) = ⊤
IsMapBegin _ = ⊥

-- what is read of such an input
abbrev pub Means : List ℕ → Event → serde.Event → Type 0
Means input given (serde.boolean v) = IsBool given.kind v
Means input given (serde.signed v) = IsSigned given.kind v
Means input given (serde.unsigned v) = IsUnsigned given.kind v
Means input given (serde.single x) = IsFloat binary32 input given x
Means input given (serde.double x) = IsFloat binary64 input given x
Means input given (serde.character c) = HoldsText given.kind (encode_utf8 c)
Means input given (serde.text v) = HoldsText given.kind v
Means input given serde.nothing = given.kind ≡ scalar null
Means input given (serde.seq_begins n) = IsListBegin given.kind
Means input given serde.seq_ends = given.kind ≡ sequence_end
Means input given (serde.map_begins n) = IsMapBegin given.kind
Means input given serde.map_ends = given.kind ≡ struct_end
Means input given _ = ⊤

-- ---- the steps

-- A text of these bytes was read, or a list, of which no more is said than that it began.
abbrev pub ReadsBytes : Json → List ℕ → Json → Type 0
ReadsBytes old v new = (now : Now) → JsonStands old now → (given : Event) × (after : Now) × PassesNext now given after × ((JsonStands new after × HoldsText given.kind v) ⊎ IsListBegin given.kind)

-- An entry begins where a key comes, which is read by the next step.
abbrev pub StepGives : Json → List ℕ → serde.Event → Json → Type 0
StepGives old input serde.key_begins new = StepShows old (λ shown. AnyKey shown.kind) new
StepGives old input (serde.octets v) new = ReadsBytes old v new
StepGives old input e new = StepReads old (λ given. Means input given e) new

-- a key or a text, and the first of the names that it stands for
abbrev pub HoldsName : Bool → List Name → ℕ → EventKind → Type 0
HoldsName true names at given = (key : List ℕ) × HoldsKey given key × Finds names key at
HoldsName false names at given = (key : List ℕ) × HoldsText given key × Finds names key at

abbrev pub Picks : Json → List ℕ → Bool → List Name → ℕ → Json → Type 0
Picks old input is_key names at new = StepReads old (λ given. HoldsName is_key names at given.kind) new
