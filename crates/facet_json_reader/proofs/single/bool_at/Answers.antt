-- Each first byte begins its literal.
use Rattle.facet_format.specs.Bytes as byte
use Rattle.facet_json_token.proofs.Offsets.{slice_get-from_read}
use Rattle.facet_json_reader.specs.Inner.Quick.{true_stands, false_stands}
use Rattle.facet_json_reader.proofs.single.bool_at.Goals as goal

pub returns-in_ok-word_at-in-116 : goal.returns-in_ok-word_at-in-116
returns-in_ok-word_at-in-116 c =
    let w = c.in_ok-get in
    c.in_ok-word_at-in-116.ensures.word _ byte.lower_t _ true_stands (slice_get-from_read c.args.input.now c.args.at w.field-0.now byte.lower_t w.ensures.lookup.3 c.in-116.is)

pub returns-in_ok-word_at-in-102 : goal.returns-in_ok-word_at-in-102
returns-in_ok-word_at-in-102 c =
    let w = c.in_ok-get in
    c.in_ok-word_at-in-102.ensures.word _ byte.lower_f _ false_stands (slice_get-from_read c.args.input.now c.args.at w.field-0.now byte.lower_f w.ensures.lookup.3 c.in-102.is)
