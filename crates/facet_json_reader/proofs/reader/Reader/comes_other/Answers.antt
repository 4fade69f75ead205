-- Another first byte begins another event.
use Rattle.std.proofs.Common.{refl}
use Rattle.std.proofs.lemmas.Bool.{not-true}
use Rattle.facet_json_reader.specs.PlaceViews.{language_of, place_of}
use Rattle.facet_json_reader.proofs.FirstBytesOfEvents.{other-byte}
use Rattle.facet_json_reader.proofs.reader.Reader.comes_other.Goals as goal

pub returns : goal.returns
returns c is =
    let w = c.in-Some in
    let other = not-true _ (rw c.first_byte.ensures at is) in
    other-byte c.args.sought c.args.input.now (language_of c.args.language) c.args.self.now (place_of w.ahead.place) w.ahead.at w.ahead.first
    w.ensures.reaches (c.if-not-is_value.ensures refl) w.ensures.here other
