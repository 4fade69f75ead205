-- Each member in sight has another key.
use Rattle.std.proofs.Common.{◌≡◌, refl}
use Rattle.facet_json_reader.proofs.Fronts.{scalar-fits}
use Rattle.facet_json_parser.specs.Inner.Sight.{standing}
use Rattle.facet_json_core.proofs.OthersInSight.{stays-here, other-named, other-far}
use Rattle.facet_json_core.proofs.steps.find.others_in_sight.Goals as goal

pub returns-in_err-input : goal.returns-in_err-input
returns-in_err-input c = rw c.from_residual.ensures (stays-here c.args.name.now c.args.parser.now)

pub returns-in_default-other_len : goal.returns-in_default-other_len
returns-in_default-other_len c =
    let i = c.loop-key.invariant in
    let start = c.args.parser.now in
    let named = other-named start c.in_ok-input.input.now c.loop-key.at c.in-Some.value c.in-Some.key.now c.in_ok-input.ensures.input i.stands c.in-Some.ensures.over in
    let stands : c.stand.new.parser ≡ standing start c.in-Some.value = rw i.same at c.stand.ensures in
    (standing start c.loop-key.at, i.far, rw stands named.named)

pub behind_member-at-requires : goal.behind_member-at-requires
behind_member-at-requires c =
    let there = c.in-Some-other_len.ensures.there in
    record { within = (scalar-fits c.in_ok-input.input.now c.in-Some.value.at c.in-Some-other_len.len there.value there.there).1 }

pub loop-key-preserved : goal.loop-key-preserved
loop-key-preserved c =
    let i = c.loop-key.invariant in
    let start = c.args.parser.now in
    let name = c.args.name.now in
    let inside = c.in_object.ensures c.if-not-in_object.false in
    let named = other-named start c.in_ok-input.input.now c.loop-key.at c.in-Some.value c.in-Some.key.now c.in_ok-input.ensures.input i.stands c.in-Some.ensures.over in
    let there = c.in-Some-other_len.ensures.there in
    let at_value = c.in-Some.ensures.place in
    let far = other-far start c.in_ok-input.input.now inside.0 name c.loop-key.at c.in-Some.value c.behind_member-at.result c.in-Some.key.now c.in-Some-other_len.len
    c.in_ok-input.ensures.input inside.1 named there
    (λ stack after reached. c.behind_member-at.ensures.over stack there.value (rw at_value tt) after reached (there, refl)) c.in-Some-other_len.ensures.other in
    record { same = i.same; stands = far.stands; far = λ s searching. far.far s (i.far s searching) }
