-- A bracket opens its container, another byte begins a scalar.
use Rattle.std.proofs.Common.{Some, ap, ◌∙◌, refl}
use Rattle.facet_json_reader.specs.PlaceViews.{language_of, place_of}
use Rattle.facet_json_reader.proofs.step.value_event.Goals as goal

pub returns-in-Some : goal.returns-in-Some
returns-in-Some c =
    c.start_event.ensures c.args.input.now (language_of c.args.language) (place_of c.args.ahead.place) (c.if-not-is_value.ensures refl)
    (c.requires.here ∙ ap Some c.in-Some.ensures) c.requires.reaches

pub returns-in-None : goal.returns-in-None
returns-in-None c = c.scalar_event.ensures (place_of c.args.ahead.place) (c.if-not-is_value.ensures refl) c.requires.reaches
