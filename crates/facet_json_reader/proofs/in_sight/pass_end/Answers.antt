-- The bracket gives the end of the container.
use Rattle.std.proofs.Common.{refl, ap, ◌∙◌, arith}
use Rattle.std.proofs.lemmas.Option.{slice_get_within}
use Rattle.facet_json_reader.specs.Inner.InSight.{not_told}
use Rattle.facet_json_reader.specs.PlaceViews.{place_of, turn_by, closing_bracket}
use Rattle.facet_json_reader.proofs.Fronts.{end-over}
use Rattle.facet_json_reader.proofs.SortsOfTokens.{closes-own}
use Rattle.facet_json_reader.proofs.in_sight.pass_end.Goals as goal

pub returns-in_default : goal.returns-in_default
returns-in_default g c = record { same = refl; left = not_told; over = tt; onward = tt }

pub take_piece-requires : goal.take_piece-requires
take_piece-requires g c =
    λ k. ((refl, tt), (omega (arith, slice_get_within c.args.input.now c.args.from.at (closing_bracket c.args.kind) c.requires), (_, refl)))

pub behind_value-requires : goal.behind_value-requires
behind_value-requires g c = omega (arith, slice_get_within c.args.input.now c.args.from.at (closing_bracket c.args.kind) c.requires)

pub returns-clause-over : goal.returns-clause-over
returns-clause-over g c =
    λ reached.
    let a = c.args in
    let turns = closes-own a.from.place a.kind c.in-Closes.field-0 (c.in-Closes.ensures.turn ∙ ap (turn_by (place_of a.from.place)) c.closing_sort.ensures) in
    let behind = c.behind_value.ensures in
    end-over (g.T.Takes.takes a.input.now) a.input.now g.L.InLanguage.language a.contexts.now a.from c.behind_value.result _ _ a.kind c.pop.new.self turns reached
    c.requires behind.last c.pop.ensures behind.stage behind.front (c.in_ok-take_piece.ensures.taken _ refl)

pub returns-clause-onward : goal.returns-clause-onward
returns-clause-onward g c = (
  omega (arith, c.behind_value.ensures.onward),
  slice_get_within c.args.input.now c.args.from.at (closing_bracket c.args.kind) c.requires,
)
