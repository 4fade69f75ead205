-- What a parser is as a value, on any input, and where it stands on a document's walk.
use Rattle.std.specs.Prelude.{◌≡◌, ◌≤◌, ℕ, ◌-◌, List, length}
use Rattle.facet_format.specs.Span.{Span, stop}
use Rattle.facet_format.specs.Complaint.{Refusal}
use Rattle.facet_format.specs.Cursor.{Upcoming, an_event, the_end, a_refusal, World, Cursor, start_at, current_span, Call, Answer, Run}
use Rattle.facet_format.specs.Part.{Source}
use Rattle.facet_format.specs.Alike.{CursorsAlike}
use Rattle.facet_json_token.specs.Gap.{Mode}
use Rattle.facet_json_grammar.specs.Language.{Language, lenient}
use Rattle.facet_json_grammar.specs.Refusal.{IsStuck}
use Rattle.facet_json_grammar.specs.Future.{Future, gives, finished, stuck}
use Rattle.facet_json_grammar.specs.Reader.{Reader, first_reader, past, future_at}
use Rattle.facet_json_grammar.specs.Unread.{PartAt}
pub use Rattle.facet_json_grammar.specs.OnWalk.{IsOnWalk}

pub record Now : Type 0 where
  pub buffer : List ℕ
  pub language : Language
  pub cursor : Cursor Reader

-- a parser that has read nothing
abbrev pub fresh_in : List ℕ → Language → Now
fresh_in buffer language = record { buffer = buffer; language = language; cursor = start_at first_reader }

-- a lenient one
abbrev pub fresh : List ℕ → Mode → Now
fresh buffer mode = fresh_in buffer (lenient mode)

-- ---- what comes

abbrev pub future_of : Now → Future
future_of now = future_at now.buffer now.language now.cursor.spot.place

abbrev pub first_of : Future → Upcoming
first_of (gives p future) = an_event p
first_of finished = the_end
first_of (stuck place rest) = a_refusal

-- Where no document goes on, it may be refused so.
abbrev pub RefusedAt : List ℕ → Future → Refusal → Type 0
RefusedAt buffer (stuck place rest) refusal = IsStuck buffer place rest refusal
RefusedAt buffer _ refusal = ⊥

-- an input's places
abbrev pub on_input : List ℕ → Language → World Reader
on_input buffer language = record {
  comes = λ s. first_of (future_at buffer language s);
  refuses = λ s refusal. RefusedAt buffer (future_at buffer language s) refusal;
  past = past;
  last = λ s. s.last;
  bytes = buffer;
  stands = PartAt buffer language;
}

-- the last token that was read, also of an event that was peeked at
abbrev pub current_span_of : Now → Span
current_span_of now = current_span (on_input now.buffer now.language) now.cursor.spot

-- how many bytes stand after the last token that an event passed
abbrev pub ahead : Now → ℕ
ahead now = length now.buffer - stop now.cursor.spot.place.last

-- ---- what a call leaves

-- The input is the same, read in the same language.
pub record SameInput (old new : Now) : Type 0 where
  pub buffer : new.buffer ≡ old.buffer
  pub language : new.language ≡ old.language

-- The same points are kept, and the next one will have the same number.
pub record SamePoints (old new : Now) : Type 0 where
  pub kept : new.cursor.kept ≡ old.cursor.kept
  pub counter : new.cursor.counter ≡ old.cursor.counter

-- Calls lead from the first to this one, however they are answered.
pub record LeadsTo (first now : Now) : Type 0 where
  pub input : SameInput first now
  pub calls : List Call
  pub answers : List Answer
  pub run : Run (on_input first.buffer first.language) first.cursor calls answers now.cursor

-- The input, the language and the points stay, and no more bytes are ahead. Where calls led to the old one, calls lead to the new one: nothing
-- else is done to it.
pub record GoesOn (old new : Now) : Type 0 where
  pub input : SameInput old new
  pub points : SamePoints old new
  pub onward : ahead new ≤ ahead old
  pub by_calls : (first : Now) → LeadsTo first old → LeadsTo first new

-- ---- where it stands on a document's walk

-- The parser stands where the cursor stands on the walk.
abbrev pub StandsAt : Now → Source → Cursor ℕ → Type 0
StandsAt now w c = CursorsAlike (IsOnWalk now.buffer now.language w) now.cursor c
