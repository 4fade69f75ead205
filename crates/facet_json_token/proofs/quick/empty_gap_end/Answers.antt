-- A byte that begins no piece of a gap ends it.
use Rattle.facet_json_token.specs.Views.{mode_of}
use Rattle.facet_json_token.proofs.InSight.{past_gap-ends}
use Rattle.facet_json_token.proofs.quick.empty_gap_end.Goals as goal

pub returns-in-Some-clause-end : goal.returns-in-Some-clause-end
returns-in-Some-clause-end c =
    let t = c.in-Some.field-0-test in
    past_gap-ends (mode_of c.args.mode) c.args.buffer.now c.args.position c.in-Some.field-0.now c.in-Some.ensures.lookup.3 t.0.0.0.0.1 t.0.0.0.1 t.0.0.1 t.0.1 t.1
