-- Each literal gives its event.
use Rattle.std.proofs.Common.{Some, ap, ◌∙◌, arith}
use Rattle.std.proofs.lemmas.Option.{slice_get_within}
use Rattle.facet_format.specs.Bytes as byte
use Rattle.facet_json_reader.specs.PlaceViews.{language_of}
use Rattle.facet_json_reader.specs.Inner.Quick.{true_stands, false_stands}
use Rattle.facet_json_reader.proofs.wanted.BoolWanted.pass.Goals as goal

pub returns-in_ok-span-in-116 : goal.returns-in_ok-span-in-116
returns-in_ok-span-in-116 c =
    let at = c.in_ok-at.ensures in
    c.in_ok-span-in-116.ensures.passes (language_of c.args.language) at.reaches.0 byte.lower_t _ true_stands
    (at.here ∙ ap Some c.in-116.is) at.reaches.1 at.reaches.2

pub returns-in_ok-span-in-102 : goal.returns-in_ok-span-in-102
returns-in_ok-span-in-102 c =
    let at = c.in_ok-at.ensures in
    c.in_ok-span-in-102.ensures.passes (language_of c.args.language) at.reaches.0 byte.lower_f _ false_stands
    (at.here ∙ ap Some c.in-102.is) at.reaches.1 at.reaches.2

pub pass_word-requires-in-102 : goal.pass_word-requires-in-102
pass_word-requires-in-102 c = omega (arith, slice_get_within c.args.input.now c.in_ok-at.at c.in_ok-at.first c.in_ok-at.ensures.here)
