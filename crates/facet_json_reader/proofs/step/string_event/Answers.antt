-- Where a value may stand a string is a text, and where a key may stand a key.
use Rattle.std.proofs.Common.{false, ◌+◌}
use Rattle.facet_format.specs.Event.{text, borrowed}
use Rattle.facet_json_reader.specs.declared.place.Turn.TheVariants as turns
use Rattle.facet_json_reader.specs.PlaceViews.{language_of, place_of}
use Rattle.facet_json_reader.proofs.ValuesThere.{text-there, text_there-kind}
use Rattle.facet_json_reader.proofs.AllowedTexts.{unescaped-allowed}
use Rattle.facet_json_reader.proofs.SortsOfTokens.{text-turn, text-may_be}
use Rattle.facet_json_reader.proofs.step.string_event.Goals as goal

pub returns-in_ok-span-in-Names : goal.returns-in_ok-span-in-Names
returns-in_ok-span-in-Names c =
    let t = c.in_ok-end in
    let at = c.args.ahead.at in
    let key = text-turn c.args.ahead.place turns.Names (at + 1) t.end false c.in-Names.ensures.turn in
    rw c.new-key.ensures.name
    (c.in_ok-span-in-Names.ensures.passes (place_of c.args.ahead.place) t.text.now key t.ensures.text c.requires.reaches)

pub returns-in-Scalar : goal.returns-in-Scalar
returns-in-Scalar c =
    let input = c.args.input.now in
    let language = language_of c.args.language in
    let at = c.args.ahead.at in
    let t = c.in_ok-end in
    let there = text-there input at t.end t.text.now t.ensures.text in
    let is = text_there-kind input at t.end t.text.now t.ensures.text in
    let may = text-may_be c.args.ahead.place c.in-Scalar.ensures.turn in
    c.pass_scalar-span.ensures input language (place_of c.args.ahead.place) (text (borrowed t.text.now)) there
    (rw is (unescaped-allowed language input (at + 1) t.end t.ensures.unescaped _ false)) may c.requires.reaches
