-- Without a minus, or after one.
use Rattle.std.proofs.Common.{ap, ◌∙◌, Some}
use Rattle.facet_json_reader.proofs.PointedNumbers.{unsigned-pointed, signed-pointed}
use Rattle.facet_json_reader.proofs.number.pointed_len.Goals as goal

pub returns-in_ok-len : goal.returns-in_ok-len
returns-in_ok-len c =
    signed-pointed c.args.input.now c.args.at c.in_ok-len.len (c.requires.here ∙ ap Some c.if-first-eq45.true) c.in_ok-len.ensures.pointed

pub returns-in_ok-len-2 : goal.returns-in_ok-len-2
returns-in_ok-len-2 c =
    unsigned-pointed c.args.input.now c.args.at c.args.first c.in_ok-len-2.len c.requires.here c.requires.number c.if-first-eq45.false c.in_ok-len-2.ensures.pointed
