-- Members and items of one container, and then a bracket.
use Rattle.facet_json_reader.specs.Inner.InSight.{none_more, one_more, none_taken}
use Rattle.facet_json_reader.proofs.Fronts.{several-more}
use Rattle.facet_json_reader.proofs.in_sight.pass_all.Goals as goal

pub loop-next-init : goal.loop-next-init
loop-next-init g c = λ reached. (none_more, reached)

pub returns-in_default : goal.returns-in_default
returns-in_default g c =
    λ reached.
    let so_far = c.loop-next.invariant reached in
    let far = c.pass_inside-inside.ensures.far so_far.1 in
    let same = c.in_default.ensures.same in
    rw same (none_taken _ _ _ (several-more (g.T.Takes.takes c.args.input.now) c.args.input.now g.L.InLanguage.language so_far.0 far.several) c.in_default.ensures.left)

pub returns-in-Over : goal.returns-in-Over
returns-in-Over g c =
    λ reached.
    let so_far = c.loop-next.invariant reached in
    let far = c.pass_inside-inside.ensures.far so_far.1 in
    let over = c.in-Some.ensures.over far.front in
    one_more _ _ _ _ over.event (several-more (g.T.Takes.takes c.args.input.now) c.args.input.now g.L.InLanguage.language so_far.0 far.several) over.one over.taken

pub loop-next-preserved : goal.loop-next-preserved
loop-next-preserved g c =
    λ reached.
    let so_far = c.loop-next.invariant reached in
    let far = c.pass_inside-inside.ensures.far so_far.1 in
    let over = c.in-Some.ensures.over far.front in (
      one_more _ _ _ _ over.event (several-more (g.T.Takes.takes c.args.input.now) c.args.input.now g.L.InLanguage.language so_far.0 far.several) over.one over.taken,
      over.front c.in_default-stage.not-Over,
    )
