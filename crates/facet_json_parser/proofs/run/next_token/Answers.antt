-- A bracket, a comma or a colon is cut where it stands.
use Rattle.std.proofs.Common.{Some, refl, ap, ◌∙◌}
use Rattle.facet_json_token.specs.Views.{mode_of}
use Rattle.facet_json_token.proofs.InSight.{cut_of-told, structural-is_cut, told-no_end}
use Rattle.facet_json_token.proofs.Offsets.{slice_get-from_read}
use Rattle.facet_json_parser.proofs.run.next_token.Goals as goal

pub returns-in-Some-structural-clause-answer : goal.returns-in-Some-structural-clause-answer
returns-in-Some-structural-clause-answer c =
    let buffer = c.args.input.now in
    let at = c.args.position in
    let b = c.in-Some.byte.now in
    let is = c.in-Some-structural.ensures in
    let here = slice_get-from_read buffer at b b c.in-Some.ensures.lookup.3 refl in
    cut_of-told c.in-Some-structural.token _ is.2 ∙ ap Some (structural-is_cut buffer at b is.0 here is.1 (mode_of c.args.mode))

pub returns-in-Some-structural-clause-end : goal.returns-in-Some-structural-clause-end
returns-in-Some-structural-clause-end c = told-no_end c.in-Some-structural.token _ c.in-Some-structural.ensures.2
