-- The bracket gives the end of the list.
use Rattle.std.proofs.Common.{Some, ap, ◌∙◌}
use Rattle.facet_json_reader.specs.PlaceViews.{language_of}
use Rattle.facet_json_reader.proofs.wanted.ListEndWanted.pass.Goals as goal

pub returns : goal.returns
returns c =
    let a = c.in_ok-ahead.ensures in
    c.in_ok-span.ensures.passes c.args.input.now (language_of c.args.language) (a.here ∙ ap Some c.if-ahead-ne93.false) a.reaches
