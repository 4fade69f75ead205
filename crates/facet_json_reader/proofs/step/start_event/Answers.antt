-- The bracket gives its event.
use Rattle.facet_json_reader.proofs.step.start_event.Goals as goal

pub returns : goal.returns
returns c =
    λ buffer language place may here reached.
    rw c.opening.ensures (c.in_ok-span.ensures.passes buffer language place may here reached)
