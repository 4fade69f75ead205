-- The bracket gives the beginning of the container.
use Rattle.std.proofs.Common.{refl, arith}
use Rattle.std.proofs.lemmas.Option.{slice_get_within}
use Rattle.facet_json_reader.specs.Inner.InSight.{not_told}
use Rattle.facet_json_reader.specs.PlaceViews.{opening_bracket}
use Rattle.facet_json_reader.proofs.Fronts.{start-over}
use Rattle.facet_json_reader.proofs.in_sight.pass_start.Goals as goal

pub returns-then-not-takes_value-clause-left : goal.returns-then-not-takes_value-clause-left
returns-then-not-takes_value-clause-left g c = not_told

pub returns-in_default-clause-left : goal.returns-in_default-clause-left
returns-in_default-clause-left g c = not_told

pub take_piece-requires : goal.take_piece-requires
take_piece-requires g c =
    λ k. ((refl, tt), (omega (arith, slice_get_within c.args.input.now c.args.from.at (opening_bracket c.args.kind) c.requires), (_, refl)))

pub behind_start-requires : goal.behind_start-requires
behind_start-requires g c = slice_get_within c.args.input.now c.args.from.at (opening_bracket c.args.kind) c.requires

pub returns-in-Some-clause-over : goal.returns-in-Some-clause-over
returns-in-Some-clause-over g c =
    λ reached.
    let a = c.args in
    let behind = c.behind_start.ensures in
    start-over (g.T.Takes.takes a.input.now) a.input.now g.L.InLanguage.language a.contexts.now a.from c.behind_start.result _ _ a.kind c.push.new.self
    (c.if-not-takes_value.ensures refl) reached c.requires behind.last c.in-Ok.ensures (behind.stage a.contexts.now) (behind.front c.push.new.self)
    (c.in-Some.ensures.taken _ refl)

pub returns-in-Some-clause-onward : goal.returns-in-Some-clause-onward
returns-in-Some-clause-onward g c = (
  c.behind_start.ensures.onward,
  slice_get_within c.args.input.now c.args.from.at (opening_bracket c.args.kind) c.requires,
)
