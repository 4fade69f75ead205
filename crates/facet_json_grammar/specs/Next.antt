-- What a call for events takes of what comes: the part of its moves that a loop over a parser's events needs.
use Rattle.std.specs.Prelude.{◌≡◌, List, map, None}
use Rattle.facet_format.specs.Span.{Span}
use Rattle.facet_format.specs.Event.{Event, Passed}
use Rattle.facet_json_grammar.specs.Future.{Future, gives, finished, events_before}
use Rattle.facet_json_grammar.specs.Now.{Now, future_of}

-- the event, with this last token, and then what comes
abbrev pub first_then : Event → Span → Future → Future
first_then given last future = gives (record { event = given; last = last }) future

-- The event came next, and is passed. The parser is not refused.
pub record PassesNext (old : Now) (given : Event) (new : Now) : Type 0 where
  pub last : Span
  pub comes : future_of old ≡ first_then given last (future_of new)
  pub free : new.cursor.refusal ≡ None

-- The event comes next, and the same comes afterwards. The parser is not refused.
pub record ShowsNext (old : Now) (shown : Event) (new : Now) : Type 0 where
  pub last : Span
  pub rest : Future
  pub comes : future_of old ≡ first_then shown last rest
  pub stays : future_of new ≡ future_of old
  pub free : new.cursor.refusal ≡ None

-- The events came next, in this order, and are passed.
pub record PassesAll (old : Now) (given : List Event) (new : Now) : Type 0 where
  pub passed : List Passed
  pub events : map (λ p. p.event) passed ≡ given
  pub comes : future_of old ≡ events_before passed (future_of new)

-- Nothing came, and nothing comes afterwards. The parser is not refused.
pub record IsOver (old new : Now) : Type 0 where
  pub over : future_of old ≡ finished
  pub stays : future_of new ≡ finished
  pub free : new.cursor.refusal ≡ None
