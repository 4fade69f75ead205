use Rattle.std.proofs.Common.{Option, None, Ok, Err, ap}
use Rattle.std.proofs.lemmas.Option.{same_Some}
use Rattle.facet_format.specs.Event.{Event}
use Rattle.facet_format.specs.Cursor.{Answer, event, batch, saved, restored, spans, skipped, raw, on_walk}
use Rattle.facet_format.proofs.CursorSteps.{peek-next}
use Rattle.facet_json_tests.proofs.parsers.peek_and_next.Goals as goal

-- the event that was answered
abbrev event_in : Answer → Option Event
event_in (event (Ok e)) = e
event_in (event (Err r)) = None
event_in (batch given r) = None
event_in (skipped r) = None
event_in (raw r) = None
event_in (saved r) = None
event_in restored = None
event_in (spans s) = None

pub returns-in-Ok-Some-next_event-clause-alike : goal.returns-in-Ok-Some-next_event-clause-alike
returns-in-Ok-Some-next_event-clause-alike g c w from stands =
    let peeked = rw c.in-Ok-Some.field-0-is at c.in-Ok-Some.ensures.steps w from stands in
    let passed = rw c.in-Ok-Some-next_event.field-0-is at c.in-Ok-Some-next_event.ensures.steps w peeked.0 peeked.2 in
    same_Some _ _ (ap event_in (peek-next (on_walk w) from peeked.0 passed.0 _ _ peeked.1 passed.1))
