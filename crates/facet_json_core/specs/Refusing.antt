-- How a reader tells a refusal: where the parser is refused, as the parser is, and else of its own.
use Rattle.std.specs.Prelude.{◌≡◌, ◌⊎◌, ◌<◌, ◌≤◌, ◌^◌, ◌-◌, min, ℕ, Bool, true, false, List, None, Some, codes}
use Rattle.facet_format.specs.Complaint.{Complaint, unexpected_eof, invalid_value, type_mismatch, number_out_of_range, missing_field, Refusal, refusal_at, no_memory}
use Rattle.facet_format.specs.Event.{Event, EventKind, Scalar}
use Rattle.facet_format.specs.Event as event
use Rattle.facet_format.specs.Span.{Span, stop, span_at}
use Rattle.facet_json_grammar.specs.Future.{finished}
use Rattle.facet_json_grammar.specs.Now.{Now, ahead, future_of, current_span_of, LeadsTo}
use Rattle.facet_json_grammar.specs.Next.{PassesNext}

-- ---- what refusals say

-- whether a type refuses so, of a value that it has not
abbrev pub is_own : Complaint → Bool
is_own (invalid_value message) = true
is_own (type_mismatch expected got) = true
is_own (number_out_of_range target_type) = true
is_own (missing_field field) = true
is_own _ = false

-- A type refuses what stands there.
abbrev pub IsAbout : Span → Refusal → Type 0
IsAbout span refusal = (complaint : Complaint) × (is_own complaint ≡ true) × (refusal ≡ refusal_at complaint span)

-- The same, or an allocation failed.
abbrev pub LacksOrIsAbout : Span → Refusal → Type 0
LacksOrIsAbout span refusal = (refusal ≡ no_memory) ⊎ IsAbout span refusal

-- A value was to come, and the document was over with this token. (Every input ends at an offset, which is below 2^64.)
abbrev pub no_value_after : Span → Refusal
no_value_after last = refusal_at (unexpected_eof (codes "value")) (span_at (min (stop last) (2 ^ 64 - 1)) 0)

-- what a scalar is called in a refusal
abbrev pub name_of_scalar : Scalar → List ℕ
name_of_scalar event.null = codes "null"
name_of_scalar event.unit = codes "null"
name_of_scalar (event.bool b) = codes "bool"
name_of_scalar (event.char c) = codes "string"
name_of_scalar (event.i64 n) = codes "integer"
name_of_scalar (event.u64 n) = codes "integer"
name_of_scalar (event.i128 n) = codes "integer"
name_of_scalar (event.u128 n) = codes "integer"
name_of_scalar (event.decimal d) = codes "decimal"
name_of_scalar (event.text t) = codes "string"
name_of_scalar (event.bytes b) = codes "string"

-- what an event is called in a refusal
abbrev pub name_of_event : EventKind → List ℕ
name_of_event (event.struct_start kind) = codes "object"
name_of_event event.struct_end = codes "end"
name_of_event (event.sequence_start kind) = codes "array"
name_of_event event.sequence_end = codes "end"
name_of_event (event.field_key name) = codes "key"
name_of_event (event.scalar value) = name_of_scalar value

-- This event stands where something else was expected.
abbrev pub mismatch_of : List ℕ → Event → Refusal
mismatch_of expected given = refusal_at (type_mismatch expected (name_of_event given.kind)) given.span

-- ---- where a reader came by

-- Calls lead from the old one to the new one, and no more bytes are ahead.
pub record ComesTo (old new : Now) : Type 0 where
  pub onward : ahead new ≤ ahead old
  pub by_calls : (first : Now) → LeadsTo first old → LeadsTo first new

-- The span is that of an event that was passed on the way, or that of the last token where the parser stood on the way, after it passed some.
pub data IsSpanPassed (old new : Now) (span : Span) : Type 0 where
  of_an_event : (before after : Now) (given : Event) → ComesTo old before → PassesNext before given after → ComesTo after new →
      given.span ≡ span → IsSpanPassed old new span
  of_the_last_token : (after : Now) → ComesTo old after → ahead after < ahead old → ComesTo after new → current_span_of after ≡ span →
      IsSpanPassed old new span

-- ---- how a refusal is told

-- Reading from the old one to the new one was refused, and this is told.
pub data TellsRefusal (old new : Now) (refusal : Refusal) : Type 0 where
  -- The parser is refused so.
  as_it_came : new.cursor.refusal ≡ Some refusal → TellsRefusal old new refusal
  -- It is not, nor in what follows, but nothing comes any more where a value was to come.
  at_the_end : new.cursor.refusal ≡ None → future_of new ≡ finished → refusal ≡ no_value_after (current_span_of new) → TellsRefusal old new refusal
  -- A type refuses what was passed.
  of_a_type : (span : Span) → new.cursor.refusal ≡ None → IsSpanPassed old new span → IsAbout span refusal → TellsRefusal old new refusal
  -- An allocation for the value itself failed.
  without_memory : new.cursor.refusal ≡ None → refusal ≡ no_memory → TellsRefusal old new refusal
