-- A closing bracket ends its container.
use Rattle.std.proofs.Common.{Some, ap, ◌∙◌}
use Rattle.facet_json_reader.specs.PlaceViews.{language_of}
use Rattle.facet_json_reader.proofs.step.ParseEventKindWanted.pass.Goals as goal

pub returns-in-Some : goal.returns-in-Some
returns-in-Some c =
    let a = c.in_ok-ahead.ensures in
    c.end_event.ensures c.args.input.now (language_of c.args.language) (a.here ∙ ap Some c.in-Some.ensures) a.reaches
