-- The scalar is consumed.
use Rattle.std.proofs.Common.{subst}
use Rattle.facet_json_reader.specs.declared.place.Place.TheVariants as places
use Rattle.facet_json_reader.specs.Inner.InSight.{PassesScalarAt}
use Rattle.facet_json_reader.proofs.Fronts.{scalar-at}
use Rattle.facet_json_reader.proofs.in_sight.Front.behind_item.Goals as goal

pub returns-clause-over : goal.returns-clause-over
returns-clause-over c =
    λ stack value may after reached is.
    let behind = c.behind.ensures in
    subst (λ v. PassesScalarAt c.args.input.now _ stack c.args.self c.args.len v c.behind.result) is.1
    (scalar-at c.args.input.now _ stack c.args.self c.behind.result places.AfterItem c.args.len is.0 may after reached behind.last behind.stage (behind.front stack))
