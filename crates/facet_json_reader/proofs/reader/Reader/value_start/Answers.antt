-- The place there takes a value.
use Rattle.std.proofs.Common.{refl}
use Rattle.facet_json_reader.specs.PlaceViews.{place_of}
use Rattle.facet_json_reader.proofs.reader.Reader.value_start.Goals as goal

pub returns-clause-reaches : goal.returns-clause-reaches
returns-clause-reaches c = (place_of c.in_ok-ahead.ahead.place, c.if-not-is_value.ensures refl, c.in_ok-ahead.ensures.reaches)
