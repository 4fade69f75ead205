-- A member is a key and a scalar.
use Rattle.std.proofs.Common.{◌∷◌, refl, arith}
use Rattle.facet_format.specs.Event.{object}
use Rattle.facet_json_reader.specs.Inner.InSight.{none_more}
use Rattle.facet_json_reader.proofs.Fronts.{one-far, left-far}
use Rattle.facet_json_reader.proofs.in_sight.pass_members.Goals as goal

pub loop-takes-init : goal.loop-takes-init
loop-takes-init g c = record { far = λ others reached. record { several = none_more; front = reached }; onward = omega arith }

pub returns-in_default-clause-far : goal.returns-in_default-clause-far
returns-in_default-clause-far g c =
    λ others reached.
    left-far (g.T.Takes.takes c.args.input.now) c.args.input.now g.L.InLanguage.language (object ∷ others) c.args.from c.loop-takes.front _ _ _
    (c.loop-takes.invariant.far others reached) c.in_default.ensures.left

pub returns-in_default-pass_scalar-clause-far : goal.returns-in_default-pass_scalar-clause-far
returns-in_default-pass_scalar-clause-far g c =
    λ others reached.
    let takes = g.T.Takes.takes c.args.input.now in
    let language = g.L.InLanguage.language in
    let far = c.loop-takes.invariant.far others reached in
    left-far takes c.args.input.now language (object ∷ others) c.args.from c.in-Some.key _ _ _
    (one-far takes c.args.input.now language (object ∷ others) c.args.from c.loop-takes.front c.in-Some.key _ _ _ far
    (c.in-Some.ensures.over (object ∷ others) (c.is_key.ensures c.loop-takes-test.true) far.front))
    c.in_default-pass_scalar.ensures.left

pub loop-takes-preserved : goal.loop-takes-preserved
loop-takes-preserved g c =
    let takes = g.T.Takes.takes c.args.input.now in
    let buffer = c.args.input.now in
    let language = g.L.InLanguage.language in
    let i = c.loop-takes.invariant in
    let key = c.in-Some.ensures in
    let scalar = c.in-Some-pass_scalar.ensures in
    let place = key.place in
    record {
      far = λ others reached.
          let far = i.far others reached in
          let named = one-far takes buffer language (object ∷ others) c.args.from c.loop-takes.front c.in-Some.key _ _ _ far
          (key.over (object ∷ others) (c.is_key.ensures c.loop-takes-test.true) far.front) in
          one-far takes buffer language (object ∷ others) c.args.from c.in-Some.key c.in-Some-pass_scalar.next _ _ _ named
          (scalar.over (object ∷ others) (rw place tt) refl named.front);
      onward = omega (arith, i.onward, key.onward.0, scalar.onward.0);
    }

pub returns-then-begins_container-clause-far : goal.returns-then-begins_container-clause-far
returns-then-begins_container-clause-far g c =
    λ others reached.
    let far = c.loop-takes.invariant.far others reached in
    one-far (g.T.Takes.takes c.args.input.now) c.args.input.now g.L.InLanguage.language (object ∷ others) c.args.from c.loop-takes.front c.in-Some.key _ _ _ far
    (c.in-Some.ensures.over (object ∷ others) (c.is_key.ensures c.loop-takes-test.true) far.front)
