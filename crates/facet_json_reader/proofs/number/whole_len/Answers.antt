-- The byte behind the digits begins no other part.
use Rattle.std.proofs.Common.{sym, ◌∙◌, arith}
use Rattle.facet_json_reader.proofs.WholeNumbers.{no-more_parts}
use Rattle.facet_json_reader.proofs.number.whole_len.Goals as goal

pub returns : goal.returns
returns c =
    let n = c.in_ok-len.ensures in
    no-more_parts c.args.input.now c.args.at c.in_ok-len.len n.digits n.some.0 n.some.1 (omega (arith, n.some.1)) (sym c.begins_part.ensures ∙ c.if-begins_part.false)
