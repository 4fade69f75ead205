-- What a reader passes at once, where a few bytes decide it.
use Rattle.std.specs.Prelude.{◌≡◌, ◌≢◌, ◌≤◌, ℕ, true, false, List, length, codes}
use Rattle.facet_format.specs.Bytes.{lower_n, lower_t, lower_f}
use Rattle.facet_json_reader.specs.declared.reader.Reader.{Reader}
use Rattle.facet_format.specs.Event.{EventKind, Scalar, Event, Passed}
use Rattle.facet_format.specs.Event as event
use Rattle.facet_format.specs.Span.{Span}
use Rattle.facet_json_token.specs.Cut.{past_gap}
use Rattle.facet_json_grammar.specs.Future.{Future, gives, within}
use Rattle.facet_json_grammar.specs.Language.{Language, gaps}
use Rattle.facet_json_grammar.specs.Reader.{past}
use Rattle.facet_json_grammar.specs.Place.{Place, root, after_colon, before_item, next_item}
use Rattle.facet_json_reader.specs.Views.{reader_of, comes_at, coming}

-- The places where a value may stand.
abbrev pub MayBeValue : Place → Type 0
MayBeValue root = Unit {0}
MayBeValue after_colon = Unit {0}
MayBeValue before_item = Unit {0}
MayBeValue next_item = Unit {0}
MayBeValue _ = ⊥

-- Separators aside, the next token is the one at this offset, and this place is before it.
pub record Reaches (buffer : List ℕ) (language : Language) (r : Reader) (place : Place) (at : ℕ) : Type 0 where
  pub from : ℕ
  pub fits : from ≤ length buffer
  pub gap : at ≡ past_gap buffer from (gaps language)
  pub comes : comes_at buffer language r.contexts (within place) from ≡ coming buffer language r

-- This byte begins the literal of these letters, which is read as this value.
pub data IsWord : ℕ → List ℕ → Scalar → Type 0 where
  null_stands : IsWord lower_n (codes "null") event.null
  true_stands : IsWord lower_t (codes "true") (event.bool true)
  false_stands : IsWord lower_f (codes "false") (event.bool false)

-- The reader stands after an event of this kind, which takes these bytes, and whose last token takes those.
pub record Leaves (r : Reader) (kind : EventKind) (s last : Span) (t : Reader) : Type 0 where
  pub new : reader_of t ≡ past (record { event = record { kind = kind; span = s }; last = last }) (reader_of r)

-- The event came next where the reader stood, and it stands after it.
pub record PassesQuickly (buffer : List ℕ) (language : Language) (r : Reader) (e : Event) (t : Reader) : Type 0 where
  pub p : Passed
  pub rest : Future
  pub comes : coming buffer language r ≡ gives p rest
  pub event : e ≡ p.event
  pub new : reader_of t ≡ past p (reader_of r)

-- No event of this kind comes next where the reader stands.
abbrev pub ComesNo : EventKind → List ℕ → Language → Reader → Type 0
ComesNo kind buffer language r = (p : Passed) (rest : Future) → coming buffer language r ≡ gives p rest → p.event.kind ≢ kind
