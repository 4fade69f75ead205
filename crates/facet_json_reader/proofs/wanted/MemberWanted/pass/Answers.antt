-- The bracket gives the end of the object, a string its key.
use Rattle.std.proofs.Common.{Some, ap, ◌∙◌, ◌+◌, refl}
use Rattle.facet_json_reader.specs.PlaceViews.{language_of, place_of}
use Rattle.facet_json_reader.proofs.wanted.MemberWanted.pass.Goals as goal

pub returns-in_ok-span-in-125 : goal.returns-in_ok-span-in-125
returns-in_ok-span-in-125 c =
    let a = c.in_ok-ahead.ensures in
    c.in_ok-span-in-125.ensures.passes c.args.input.now (language_of c.args.language) (a.here ∙ ap Some c.in-125.is) a.reaches

pub returns-in_ok-span-in-34 : goal.returns-in_ok-span-in-34
returns-in_ok-span-in-34 c =
    let t = c.in_ok-end-in-34 in
    let key = c.if-not-is_key.ensures refl in
    c.in_ok-span-in-34.ensures.passes (place_of c.in_ok-ahead.ahead.place) t.name.now (key (c.in_ok-ahead.ahead.at + 1) t.end)
    t.ensures.text c.in_ok-ahead.ensures.reaches
