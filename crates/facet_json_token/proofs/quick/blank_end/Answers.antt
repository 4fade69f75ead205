-- No white space stands after a run of it, and what is no slash either ends the gap.
use Rattle.std.proofs.Common.{◌∙◌, refl}
use Rattle.std.proofs.lemmas.Bool.{ne_eqb}
use Rattle.facet_format.specs.Bytes.{slash}
use Rattle.facet_json_token.specs.Views.{mode_of}
use Rattle.facet_json_token.proofs.InSight.{past_gap-here}
use Rattle.facet_json_token.proofs.Offsets.{slice_get-from_read}
use Rattle.facet_json_token.proofs.quick.blank_end.Goals as goal

pub returns-in-Some-clause-end : goal.returns-in-Some-clause-end
returns-in-Some-clause-end c =
    let buffer = c.args.buffer.now in
    let at = c.past_blank-at.result in
    let b = c.in-Some.field-0.now in
    let here = slice_get-from_read buffer at b b c.in-Some.ensures.lookup.3 refl in
    past_gap-here (mode_of c.args.mode) buffer at b here (c.past_blank-at.ensures.stops b here) (ne_eqb b slash c.in-Some.field-0-test.1)
    ∙ c.past_blank-at.ensures.same (mode_of c.args.mode)
