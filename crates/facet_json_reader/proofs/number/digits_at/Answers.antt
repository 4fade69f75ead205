-- Up to eight digits, and eight after them.
use Rattle.std.proofs.Common.{ap₂, ◌+◌, ◌*◌, ◌∙◌, arith}
use Rattle.facet_json_reader.proofs.DigitSlices.{front-digits, back-digits, front-back-value}
use Rattle.facet_json_reader.proofs.number.digits_at.Goals as goal

pub few_digits-first-requires-clause-digits : goal.few_digits-first-requires-clause-digits
few_digits-first-requires-clause-digits c = front-digits c.args.input.now c.args.at c.args.len (omega arith) c.requires.digits

pub few_digits-requires-2-clause-digits : goal.few_digits-requires-2-clause-digits
few_digits-requires-2-clause-digits c = back-digits c.args.input.now c.args.at c.args.len (omega arith) c.requires.digits

pub returns : goal.returns
returns c =
    ap₂ (λ m n. m * 100000000 + n) c.few_digits-first.ensures.value c.few_digits-2.ensures.value
    ∙ front-back-value c.args.input.now c.args.at c.args.len (omega arith) c.requires.digits c.requires.within
