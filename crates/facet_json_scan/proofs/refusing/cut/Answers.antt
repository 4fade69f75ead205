-- What is told in sight, or cut apart, is cut here too: white space before it changes nothing.
use Rattle.std.proofs.Common.{Some, ap, ◌∙◌}
use Rattle.facet_json_token.specs.Views.{mode_of}
use Rattle.facet_json_token.specs.Cut.{cut}
use Rattle.facet_json_token.proofs.InSight.{cut-within_gap, cut_of-told, told-no_end}
use Rattle.facet_json_scan.proofs.refusing.cut.Goals as goal

pub returns-in-Some-clause-answer : goal.returns-in-Some-clause-answer
returns-in-Some-clause-answer c =
    let buffer = c.args.buffer.now in
    let mode = mode_of c.args.mode in
    let at = c.past_space-at.result in
    cut_of-told c.in-Some.token (cut buffer at mode) (c.in-Some.ensures mode)
    ∙ ap Some (cut-within_gap mode buffer at c.args.position (c.past_space-at.ensures.same mode))

pub returns-in-Some-clause-end : goal.returns-in-Some-clause-end
returns-in-Some-clause-end c =
    let mode = mode_of c.args.mode in
    told-no_end c.in-Some.token (cut c.args.buffer.now c.past_space-at.result mode) (c.in-Some.ensures mode)

pub returns-in-None-clause-answer : goal.returns-in-None-clause-answer
returns-in-None-clause-answer c =
    c.cut_apart.ensures.answer
    ∙ ap Some (cut-within_gap (mode_of c.args.mode) c.args.buffer.now c.past_space-at.result c.args.position (c.past_space-at.ensures.same (mode_of c.args.mode)))
