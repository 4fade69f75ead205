-- The bracket gives its event.
use Rattle.facet_json_reader.proofs.step.end_event.Goals as goal

pub returns : goal.returns
returns c = λ buffer language here reached. rw c.closing.ensures (c.in_ok-span.ensures.passes buffer language here reached)
