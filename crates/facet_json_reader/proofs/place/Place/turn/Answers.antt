-- The sort of a token tells its turn.
use Rattle.std.proofs.Common.{◌∙◌, ap}
use Rattle.facet_json_token.specs.Views.{kind_of}
use Rattle.facet_json_reader.specs.PlaceViews.{place_of, turn_by}
use Rattle.facet_json_reader.specs.Inner.Sorts.{kind_by}
use Rattle.facet_json_reader.proofs.SortsOfTokens.{sort-turn}
use Rattle.facet_json_reader.proofs.place.Place.turn.Goals as goal

pub returns-clause-turn : goal.returns-clause-turn
returns-clause-turn c =
    c.turn_by.ensures.turn ∙ ap (λ s. turn_by (place_of c.args.self) (kind_by s)) c.sort_of.ensures.sort ∙ sort-turn c.args.self (kind_of c.args.token.now)
