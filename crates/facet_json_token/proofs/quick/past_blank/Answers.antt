-- White space leaves the end of the gap where it is, and none stands where a run of it ends.
use Rattle.std.proofs.Common.{Some, ap, ◌∙◌, refl}
use Rattle.facet_json_token.proofs.Offsets.{slice_get-from_read}
use Rattle.facet_json_token.proofs.InSight.{past_gap-space, past_gap-blanks, stop-after_blanks}
use Rattle.facet_json_token.proofs.quick.past_blank.Goals as goal

pub returns-in-Some-eq32-clause-same : goal.returns-in-Some-eq32-clause-same
returns-in-Some-eq32-clause-same c =
    let b = c.in-Some-eq32.field-0.now in
    let here = slice_get-from_read c.args.buffer.now c.args.position b b c.in-Some-eq32.ensures.lookup.3 refl in
    λ mode. past_gap-space mode c.args.buffer.now c.args.position (here ∙ ap Some c.in-Some-eq32.field-0-test)

pub returns-in_default-clause-same : goal.returns-in_default-clause-same
returns-in_default-clause-same c = λ mode. past_gap-blanks mode c.args.buffer.now c.args.position c.run_end.result c.run_end.ensures.value

pub returns-in_default-clause-stops : goal.returns-in_default-clause-stops
returns-in_default-clause-stops c = λ b. stop-after_blanks c.args.buffer.now c.args.position c.run_end.result b c.run_end.ensures.value
