-- What the reader of events and its answers stand for in the definitions.
use Rattle.std.specs.Prelude.{◌≡◌, ◌≤◌, ◌<◌, ◌⊎◌, ℕ, true, List, ◌∷◌, Option, Some, None, Result, Ok, Err, IsSome, length}
use Rattle.std.specs.declared.alloc.Global.{Global}
use Rattle.std.specs.declared.borrow.CowStr.{CowStr}
use Rattle.facet_format.specs.declared.event.Span.{Span as RustSpan}
use Rattle.facet_format.specs.declared.event.ScalarValue.{ScalarValue}
use Rattle.facet_json_token.specs.declared.token.SpannedToken.{SpannedToken}
use Rattle.facet_json_reader.specs.declared.place.Turn.{Turn as RustTurn}
use Rattle.facet_json_reader.specs.declared.refusal.Name.{Name}
use Rattle.facet_json_reader.specs.declared.refusal.Refused.{Refused}
use Rattle.facet_json_reader.specs.declared.reader.Stage.{Stage as RustStage}
use Rattle.facet_json_reader.specs.declared.reader.Stage.TheVariants as stages
use Rattle.facet_json_reader.specs.declared.reader.Held.{Held}
use Rattle.facet_json_reader.specs.declared.reader.Reader.{Reader as RustReader}
use Rattle.facet_format.specs.Complaint.{Refusal}
use Rattle.facet_format.specs.Cursor.{no_memory_at}
use Rattle.facet_format.specs.Event.{ContainerKind, object, array, EventKind, Passed, takes_memory, is_made}
use Rattle.facet_format.specs.Event as event
use Rattle.facet_format.specs.HeldText.{text_of}
use Rattle.facet_format.specs.Span.{Span, stop}
use Rattle.facet_format.specs.Views.{span_of, event_of, scalar_value_of}
use Rattle.facet_json_token.specs.Token.{Kind, colon}
use Rattle.facet_json_token.specs.Tokens.{Tokens, next}
use Rattle.facet_json_token.specs.Views.{kind_of}
use Rattle.facet_json_grammar.specs.Future.{Future, gives, finished, stuck, Stage, within, over, reads_by}
use Rattle.facet_json_grammar.specs.Language.{Language, rules}
use Rattle.facet_json_grammar.specs.StrictTokens.{tokens_in}
use Rattle.facet_json_grammar.specs.Meaning.{meaning_of}
use Rattle.facet_json_grammar.specs.Place.{Place, after_key, place_turn, kind_name}
use Rattle.facet_json_grammar.specs.Refusal.{needs_meaning, IsStuck}
use Rattle.facet_json_grammar.specs.Reader.{Reader}
use Rattle.facet_json_grammar.specs.Walk.{scalar_of}
use Rattle.facet_json_reader.specs.PlaceViews.{place_of, turn_of, name_text, refused_of}
use Rattle.facet_json_reader.specs.TokenViews.{IsTextOf, IsUnmade, IsMeaningless}

-- ---- values

abbrev pub stage_of : RustStage → Stage
stage_of (stages.Within p) = within (place_of p)
stage_of stages.Over = over

abbrev pub passed_of : Held → Passed
passed_of h = record { event = event_of h.event; last = span_of h.last }

-- where the reader stands
abbrev pub reader_of : RustReader → Reader
reader_of r = record { last = span_of r.last; stack = r.contexts; stage = stage_of r.stage }

-- the open containers, with that of an event that opens one
abbrev pub with_opened : EventKind → List ContainerKind → List ContainerKind
with_opened (event.struct_start kind) stack = object ∷ stack
with_opened (event.sequence_start kind) stack = array ∷ stack
with_opened _ stack = stack

-- what is given out from an offset on, at a stage within these containers
abbrev pub comes_at : List ℕ → Language → List ContainerKind → Stage → ℕ → Future
comes_at buffer language stack stage position = reads_by (rules language) buffer stack stage (tokens_in language buffer position)

-- what is given out from where the reader stands on
abbrev pub coming : List ℕ → Language → RustReader → Future
coming buffer language r = comes_at buffer language r.contexts (stage_of r.stage) (stop (span_of r.last))

-- ---- tokens

-- This token of the buffer is next after the offset, and this is its turn at the place.
pub record IsTurn (buffer : List ℕ) (language : Language) (place : Place) (position : ℕ) (t : SpannedToken) (turn : RustTurn) : Type 0 where
  pub kind : Kind
  pub is_kind : kind_of t.token ≡ Some kind
  pub past : position < stop (span_of t.span)
  pub ends : stop (span_of t.span) ≤ length buffer
  pub tokens : tokens_in language buffer position
      ≡ next (record { kind = kind; span = span_of t.span }) (tokens_in language buffer (stop (span_of t.span)))
  pub turns : place_turn place kind ≡ turn_of turn

-- The tokens don't go on with a document at the place, and are refused so.
abbrev pub StopsAt : List ℕ → Place → Tokens → Refusal → Type 0
StopsAt buffer place ts refusal = IsStuck buffer place ts refusal

-- A token of this kind has this name in a refusal, and a meaning where it needs one.
pub record IsNamed (buffer : List ℕ) (kind : Kind) (name : Name) : Type 0 where
  pub name_is : name_text name ≡ kind_name buffer kind
  pub has_meaning : needs_meaning kind ≡ true → IsSome (meaning_of buffer kind)

-- There was no memory for the text that is made of a token of this kind.
pub record IsUnmadeScalar (buffer : List ℕ) (kind : Kind) (last : Span) (refusal : Refusal) : Type 0 where
  pub made : is_made (scalar_of kind (meaning_of buffer kind)) ≡ true
  pub refused : refusal ≡ no_memory_at last

-- a scalar's token of this kind is read so
abbrev pub IsValueOf : List ℕ → Kind → Span → Span → Result ScalarValue Refused → Type 0
IsValueOf buffer kind s last (Ok v) =
    (scalar_value_of v ≡ scalar_of kind (meaning_of buffer kind)) × (needs_meaning kind ≡ true → IsSome (meaning_of buffer kind))
IsValueOf buffer kind s last (Err r) =
    IsUnmadeScalar buffer kind last (refused_of r) ⊎ IsMeaningless buffer kind s (refused_of r)

-- a key's token of this kind is read so
abbrev pub IsNameOf : List ℕ → Kind → Span → Result (Option (CowStr Global)) Refused → Type 0
IsNameOf buffer kind s (Ok None) = IsUnmade buffer kind
IsNameOf buffer kind s (Ok (Some name)) = IsTextOf buffer kind (text_of name)
IsNameOf buffer kind s (Err r) = IsMeaningless buffer kind s (refused_of r)

-- A colon is next, which takes these bytes.
pub record IsColon (buffer : List ℕ) (language : Language) (position : ℕ) (s : Span) : Type 0 where
  pub past : position < stop s
  pub ends : stop s ≤ length buffer
  pub tokens : tokens_in language buffer position
      ≡ next (record { kind = colon; span = s }) (tokens_in language buffer (stop s))

abbrev pub IsColonAt : List ℕ → Language → ℕ → Result RustSpan Refused → Type 0
IsColonAt buffer language position (Ok s) = IsColon buffer language position (span_of s)
IsColonAt buffer language position (Err r) = StopsAt buffer after_key (tokens_in language buffer position) (refused_of r)

-- ---- answers

-- Where this comes, the reader is refused so: memory ran out for an event that takes some, or no document goes on.
pub data IsRefusedBefore (buffer : List ℕ) (last : Span) : Future → Refusal → Type 0 where
  without_memory : (p : Passed) (future : Future) → takes_memory p.event.kind ≡ true →
      IsRefusedBefore buffer last (gives p future) (no_memory_at last)
  at_a_stop : (place : Place) (rest : Tokens) (refusal : Refusal) → StopsAt buffer place rest refusal →
      IsRefusedBefore buffer last (stuck place rest) refusal

-- The event comes next.
abbrev pub GivesHeld : Future → Held → Type 0
GivesHeld future h = (rest : Future) × (future ≡ gives (passed_of h) rest)

-- Where this comes, the next event is given, or refused.
abbrev pub Answers : List ℕ → Span → Future → Result Held Refused → Type 0
Answers buffer last future (Ok h) = GivesHeld future h
Answers buffer last future (Err e) = IsRefusedBefore buffer last future (refused_of e)

-- Where the reader stands, the document has ended, or the next event is given, or refused.
abbrev pub IsUpcoming : List ℕ → Language → RustReader → Result (Option Held) Refused → Type 0
IsUpcoming buffer language r (Ok None) = coming buffer language r ≡ finished
IsUpcoming buffer language r (Ok (Some h)) = GivesHeld (coming buffer language r) h
IsUpcoming buffer language r (Err e) = IsRefusedBefore buffer (span_of r.last) (coming buffer language r) (refused_of e)
