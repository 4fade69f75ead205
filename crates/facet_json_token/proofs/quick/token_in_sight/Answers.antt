-- Each arm tells what its byte begins.
use Rattle.std.proofs.Common.{Some, refl, ap, ◌∙◌, arith}
use Rattle.facet_format.specs.Bytes.{quote}
use Rattle.facet_json_token.specs.Token.{null, true_literal, false_literal}
use Rattle.facet_json_token.specs.Cut.{start_of}
use Rattle.facet_json_token.proofs.Offsets.{slice_get-from_read}
use Rattle.facet_json_token.proofs.InSight.{cut-number, structural-is_cut, told-cut, told-word}
use Rattle.facet_json_token.proofs.quick.token_in_sight.Goals as goal

pub text_in_sight-requires : goal.text_in_sight-requires
text_in_sight-requires c =
    slice_get-from_read c.args.buffer.now c.args.at c.in_ok-first.field-0.now quote c.in_ok-first.ensures.lookup.3 c.in-34.is

pub returns-in-116 : goal.returns-in-116
unfolding start_of
returns-in-116 c =
    told-word c.word_in_sight.result c.args.buffer.now c.args.at c.in_ok-first.field-0.now 116 _ true_literal
    c.in_ok-first.ensures.lookup.3 c.in-116.is refl refl refl
    (c.word_in_sight.ensures true_literal refl)

pub returns-in-102 : goal.returns-in-102
unfolding start_of
returns-in-102 c =
    told-word c.word_in_sight-in-102.result c.args.buffer.now c.args.at c.in_ok-first.field-0.now 102 _ false_literal
    c.in_ok-first.ensures.lookup.3 c.in-102.is refl refl refl
    (c.word_in_sight-in-102.ensures false_literal refl)

pub returns-in-110 : goal.returns-in-110
unfolding start_of
returns-in-110 c =
    told-word c.word_in_sight-in-110.result c.args.buffer.now c.args.at c.in_ok-first.field-0.now 110 _ null
    c.in_ok-first.ensures.lookup.3 c.in-110.is refl refl refl
    (c.word_in_sight-in-110.ensures null refl)

pub returns-in-45 : goal.returns-in-45
returns-in-45 c =
    let buffer = c.args.buffer.now in
    let at = c.args.at in
    let b = c.in_ok-first.field-0.now in
    let here = slice_get-from_read buffer at b b c.in_ok-first.ensures.lookup.3 refl in
    told-cut c.number_in_sight.result _ buffer at c.number_in_sight.ensures.told
    (cut-number buffer at b here (grind arith) (grind arith) (grind arith) (grind arith))

pub returns-in-Some : goal.returns-in-Some
returns-in-Some c =
    let buffer = c.args.buffer.now in
    let at = c.args.at in
    let b = c.in_ok-first.field-0.now in
    let here = slice_get-from_read buffer at b b c.in_ok-first.ensures.lookup.3 refl in
    let is = c.in-Some.ensures in
    λ mode. is.2 ∙ ap Some (structural-is_cut buffer at b is.0 here is.1 mode)
