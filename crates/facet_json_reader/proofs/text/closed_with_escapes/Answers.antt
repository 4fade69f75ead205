-- The string that is cut there ends so.
use Rattle.facet_json_reader.proofs.EscapedTexts.{escaped-cut}
use Rattle.facet_json_reader.proofs.text.closed_with_escapes.Goals as goal

pub returns-then-has_escapes : goal.returns-then-has_escapes
returns-then-has_escapes c =
    let w = c.in-String in
    escaped-cut c.args.input.now c.args.at w.start w.end w.has_escapes c.in-Ok.token c.requires c.in-Ok.ensures w.is c.if-has_escapes.true
