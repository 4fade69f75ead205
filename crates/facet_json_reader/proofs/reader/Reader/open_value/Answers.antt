-- The bracket gives the beginning of the container.
use Rattle.std.proofs.Common.{Some, ap, ◌∙◌}
use Rattle.facet_json_reader.specs.PlaceViews.{language_of}
use Rattle.facet_json_reader.proofs.reader.Reader.open_value.Goals as goal

pub returns-clause-passes : goal.returns-clause-passes
returns-clause-passes c =
    let at = c.in_ok-at.ensures in
    c.pass_opening.ensures.passes c.args.input.now (language_of c.args.language) at.reaches.0 at.reaches.1
    (at.here ∙ ap Some (c.if-first-first_byte.false ∙ c.first_byte.ensures)) at.reaches.2
