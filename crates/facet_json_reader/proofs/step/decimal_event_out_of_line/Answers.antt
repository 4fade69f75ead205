-- The decimal gives its event.
use Rattle.facet_format.specs.Event.{decimal}
use Rattle.facet_json_reader.proofs.step.decimal_event_out_of_line.Goals as goal

pub returns : goal.returns
returns c =
    λ language place allowed may reached.
    let d = c.in_ok-decimal.ensures in
    c.pass_scalar-span.ensures c.args.input.now language place (decimal c.in_ok-decimal.decimal) d.0 (rw d.1 allowed) may reached
