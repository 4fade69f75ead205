-- Where a value may stand a string is a text, and gives its event.
use Rattle.std.proofs.Common.{false, ◌+◌}
use Rattle.facet_format.specs.Event.{text, borrowed}
use Rattle.facet_json_reader.specs.PlaceViews.{language_of}
use Rattle.facet_json_reader.proofs.ValuesThere.{text-there, text_there-kind}
use Rattle.facet_json_reader.proofs.AllowedTexts.{unescaped-allowed}
use Rattle.facet_json_reader.proofs.wanted.RefStrWanted.pass.Goals as goal

pub returns : goal.returns
returns c =
    let input = c.args.input.now in
    let language = language_of c.args.language in
    let at = c.in_ok-at.at in
    let r = c.in_ok-at.ensures.reaches in
    let t = c.in_ok-end in
    let there = text-there input at t.end t.text.now t.ensures.text in
    let is = text_there-kind input at t.end t.text.now t.ensures.text in
    c.pass_scalar-span.ensures input language r.0 (text (borrowed t.text.now)) there
    (rw is (unescaped-allowed language input (at + 1) t.end t.ensures.unescaped _ false)) r.1 r.2
