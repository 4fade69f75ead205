-- An item is one event.
use Rattle.std.proofs.Common.{◌∷◌, refl, arith}
use Rattle.facet_format.specs.Event.{array}
use Rattle.facet_json_reader.specs.Inner.InSight.{none_more}
use Rattle.facet_json_reader.proofs.Fronts.{one-far, left-far}
use Rattle.facet_json_reader.proofs.in_sight.pass_items.Goals as goal

pub loop-takes-init : goal.loop-takes-init
loop-takes-init g c = record { far = λ others reached. record { several = none_more; front = reached }; onward = omega arith }

pub returns-in_default-clause-far : goal.returns-in_default-clause-far
returns-in_default-clause-far g c =
    λ others reached.
    left-far (g.T.Takes.takes c.args.input.now) c.args.input.now g.L.InLanguage.language (array ∷ others) c.args.from c.loop-takes.front _ _ _
    (c.loop-takes.invariant.far others reached) c.in_default.ensures.left

pub loop-takes-preserved : goal.loop-takes-preserved
loop-takes-preserved g c =
    let i = c.loop-takes.invariant in
    let next = c.in-Some.ensures in
    record {
      far = λ others reached.
          let far = i.far others reached in
          one-far (g.T.Takes.takes c.args.input.now) c.args.input.now g.L.InLanguage.language (array ∷ others) c.args.from c.loop-takes.front c.in-Some.next
          _ _ _ far (next.over (array ∷ others) (c.is_item.ensures c.loop-takes-test.true) refl far.front);
      onward = omega (arith, i.onward, next.onward.0);
    }
