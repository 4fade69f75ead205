-- The literal gives its event.
use Rattle.std.proofs.Common.{Some, ap, ◌∙◌}
use Rattle.facet_format.specs.Bytes as byte
use Rattle.facet_json_reader.specs.PlaceViews.{language_of}
use Rattle.facet_json_reader.specs.Inner.Quick.{null_stands}
use Rattle.facet_json_reader.proofs.wanted.NullWanted.pass.Goals as goal

pub returns : goal.returns
returns c =
    let at = c.in_ok-at.ensures in
    c.in_ok-span.ensures.passes (language_of c.args.language) at.reaches.0 byte.lower_n _ null_stands
    (at.here ∙ ap Some c.if-first-ne110.false) at.reaches.1 at.reaches.2
