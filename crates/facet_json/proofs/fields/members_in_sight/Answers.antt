-- Each member in sight belongs to the object.
use Rattle.std.proofs.Common.{◌≡◌, refl}
use Rattle.facet_json_reader.proofs.Fronts.{scalar-fits}
use Rattle.facet_json_parser.specs.Inner.Sight.{standing}
use Rattle.facet_json_core.proofs.SeenValues.{front-within}
use Rattle.facet_json.specs.Fields.{keys}
use Rattle.facet_json.specs.Inner.MembersInSight.{none_put}
use Rattle.facet_json_core.proofs.OthersInSight.{other-named}
use Rattle.facet_json.proofs.MembersInSight.{members-begin, member-far}
use Rattle.facet_json.proofs.fields.members_in_sight.Goals as goal

pub returns-in_err-input-clause-put : goal.returns-in_err-input-clause-put
returns-in_err-input-clause-put g c = λ others inside. rw c.from_residual.ensures none_put

pub loop-key-init : goal.loop-key-init
loop-key-init g c =
    let there = c.in_ok-input.ensures.there in
    record {
      same = refl;
      far = λ others inside. members-begin (g.F.Fields.step c.args.borrows (keys c.args.names.now)) c.args.parser.now (g.F.Fields.seen c.args.slots.now) c.in_ok-input.from there;
      within = front-within c.args.parser.now c.in_ok-input.from there;
      owned = λ lent owned. owned;
    }

pub stand-requires : goal.stand-requires
stand-requires g c =
    let i = c.loop-key.invariant in
    record { within = rw (i.same, ← c.in_ok-input.ensures.input) c.in-Some.ensures.within }

pub stand-requires-2 : goal.stand-requires-2
stand-requires-2 g c = let i = c.loop-key.invariant in record { within = rw i.same i.within }

pub behind_member-at-requires : goal.behind_member-at-requires
behind_member-at-requires g c =
    let there = c.in-Some-put_in_sight.ensures.put.there in
    record { within = (scalar-fits c.in_ok-input.input.now c.in-Some.value.at c.in-Some-put_in_sight.len there.value there.there).1 }

pub returns-in_default-put_in_sight-clause-put : goal.returns-in_default-put_in_sight-clause-put
returns-in_default-put_in_sight-clause-put g c =
    λ others inside.
    let i = c.loop-key.invariant in
    let start = c.args.parser.now in
    let step = g.F.Fields.step c.args.borrows (keys c.args.names.now) in
    let seen = g.F.Fields.seen c.args.slots.now in
    let far = i.far others inside in
    let named = other-named start c.in_ok-input.input.now c.loop-key.at c.in-Some.value c.in-Some.key.now c.in_ok-input.ensures.input far.stands c.in-Some.ensures.over in
    let stands : c.stand.new.parser ≡ standing start c.in-Some.value = rw i.same at c.stand.ensures in
    (standing start c.loop-key.at, rw c.in_default-put_in_sight.ensures.same far.puts, rw stands named.named)

pub loop-key-preserved : goal.loop-key-preserved
loop-key-preserved g c =
    let i = c.loop-key.invariant in
    let start = c.args.parser.now in
    let step = g.F.Fields.step c.args.borrows (keys c.args.names.now) in
    let seen = g.F.Fields.seen c.args.slots.now in
    let put = c.in-Some-put_in_sight.ensures in
    let behind = c.behind_member-at.ensures in
    let at_value = c.in-Some.ensures.place in
    record {
      same = i.same;
      far = λ others inside.
          let far = i.far others inside in
          let named = other-named start c.in_ok-input.input.now c.loop-key.at c.in-Some.value c.in-Some.key.now c.in_ok-input.ensures.input far.stands c.in-Some.ensures.over in
          member-far step start seen c.in_ok-input.input.now others c.loop-key.at c.in-Some.value c.behind_member-at.result _ _ c.in-Some.key.now
          c.in-Some-put_in_sight.len c.in_ok-input.ensures.input inside far named put.put
          (λ stack after reached. behind.over stack put.put.there.value (rw at_value tt) after reached (put.put.there, refl));
      within = rw (← c.in_ok-input.ensures.input) behind.within;
      owned = λ lent owned. c.put_in_sight.ensures.owned lent (i.owned lent owned);
    }

pub returns-clause-put : goal.returns-clause-put
returns-clause-put g c =
    λ others inside.
    let i = c.loop-key.invariant in
    let stands : c.stand-2.new.parser ≡ standing c.args.parser.now c.loop-key.at = rw i.same at c.stand-2.ensures in
    rw stands (i.far others inside).puts
