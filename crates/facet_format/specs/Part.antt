-- What stands where a reader goes on, its text unread: a value with all that it holds, a key, or a closing bracket; and how a skip and
-- a capture pass it.
use Rattle.std.specs.Prelude.{ℕ, zero, suc, ◌+◌, ◌-◌, Bool, true, false, List, [], ◌∷◌, drop, slice_get, slice_range, Option, Some, None, Result, Ok, Err, codes}
use Rattle.std.specs.Str.{is_utf8}
use Rattle.facet_format.specs.Span.{Span, span_at, stop}
use Rattle.facet_format.specs.Complaint.{Refusal, refusal_at, unexpected_eof, invalid_value}
use Rattle.facet_format.specs.Event.{EventKind, struct_start, struct_end, sequence_start, sequence_end, field_key, scalar, Passed}

-- ---- parts

pub data Part (P : Type 0) : Type 0 where
  -- a value, with or without brackets, that begins at the first offset and ends before the second; this place is after it
  value : (brackets : Bool) → (start finish : ℕ) → P → Part P
  -- a value whose first bracket isn't closed as it should be
  broken : Refusal → Part P
  -- a key that begins at the offset; this place is after its colon, which may be missing
  key : (start : ℕ) → Result P Refusal → Part P
  -- a closing bracket at the offset, and the place after it
  closing : (start : ℕ) → P → Part P
  -- none of them
  nothing : Refusal → Part P

-- Its brackets have to be remembered, which allocates.
abbrev pub has_brackets : {P : Type 0} → Part P → Bool
has_brackets (value brackets start finish place) = brackets
has_brackets (broken r) = true
has_brackets _ = false

-- ---- skips

-- A skip passes a value, a key with its colon, or a closing bracket.
abbrev pub skip_of : {P : Type 0} → Part P → Result P Refusal
skip_of (value brackets start finish place) = Ok place
skip_of (broken r) = Err r
skip_of (key start result) = result
skip_of (closing start place) = Ok place
skip_of (nothing r) = Err r

-- ---- captures

-- what is no raw text, and why
abbrev pub no_raw : List ℕ → Span → Refusal
no_raw message s = refusal_at (invalid_value message) s

-- a text that is UTF-8, or not, between the offsets
abbrev pub captured : {P : Type 0} → (start finish : ℕ) → P → List ℕ → Bool → Result (List ℕ × P) Refusal
captured start finish place text true = Ok (text, place)
captured start finish place text false = Err (no_raw (codes "invalid UTF-8 in raw JSON") (span_at start (finish - start)))

-- A capture gives a value's bytes, where they are UTF-8, and passes it.
abbrev pub capture_of : {P : Type 0} → List ℕ → Part P → Result (List ℕ × P) Refusal
capture_of bytes (value brackets start finish place) =
    let text = slice_range bytes start finish in captured start finish place text (is_utf8 text)
capture_of bytes (broken r) = Err r
capture_of bytes (key start result) = Err (no_raw (codes "unexpected field key in capture_raw") (span_at start 0))
capture_of bytes (closing start place) = Err (no_raw (codes "unexpected end event in capture_raw") (span_at start 0))
capture_of bytes (nothing r) = Err r

-- ---- parts of a walk

-- the bytes of an input, and the events that are read of it
pub record Source : Type 0 where
  pub bytes : List ℕ
  pub events : List Passed

-- the last token of an event; before the first event, none
abbrev pub last_token : Option Passed → Span
last_token None = span_at 0 0
last_token (Some p) = p.last

-- the last token of the first so many events
abbrev pub last_of : List Passed → ℕ → Span
last_of w zero = last_token None
last_of w (suc n) = last_token (slice_get w n)

-- how many brackets are open after an event, where so many are before it
abbrev pub depth_after : ℕ → EventKind → ℕ
depth_after n (struct_start kind) = suc n
depth_after n struct_end = n - 1
depth_after n (sequence_start kind) = suc n
depth_after n sequence_end = n - 1
depth_after n (field_key name) = n
depth_after n (scalar v) = n

-- how many events close so many open brackets
abbrev pub closing_len : ℕ → List Passed → ℕ
closing_len zero events = 0
closing_len (suc n) [] = 0
closing_len (suc n) (p ∷ events) = suc (closing_len (depth_after (suc n) p.event.kind) events)

-- the value that begins with an event, with all events up to the place
abbrev pub value_up_to : Source → Bool → Passed → ℕ → Part ℕ
value_up_to w brackets p place = value brackets p.event.span.offset (stop (last_of w.events place)) place

-- what an event of this kind is, with those after it, where this is the place after it: an opening bracket goes up to its matching end
abbrev pub part_of : Source → Passed → ℕ → EventKind → Part ℕ
part_of w p after (struct_start kind) = value_up_to w true p (after + closing_len 1 (drop after w.events))
part_of w p after struct_end = closing p.event.span.offset after
part_of w p after (sequence_start kind) = value_up_to w true p (after + closing_len 1 (drop after w.events))
part_of w p after sequence_end = closing p.event.span.offset after
part_of w p after (field_key name) = key p.event.span.offset (Ok after)
part_of w p after (scalar v) = value_up_to w false p after

-- after the last event, no value
abbrev pub part_or_end : Source → ℕ → Option Passed → Part ℕ
part_or_end w place None = nothing (refusal_at (unexpected_eof (codes "value")) (span_at (stop (last_of w.events place)) 0))
part_or_end w place (Some p) = part_of w p (suc place) p.event.kind

-- what stands at the place of a walk
abbrev pub part_at : Source → ℕ → Part ℕ
part_at w place = part_or_end w place (slice_get w.events place)
