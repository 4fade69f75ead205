-- The digits are eight with zeros before them.
use Rattle.std.proofs.Common.{arith}
use Rattle.facet_json_reader.proofs.EightDigits.{joined-is, joined-small, word-small}
use Rattle.facet_json_reader.proofs.DigitWords.{moved-digits}
use Rattle.facet_json_reader.proofs.number.few_digits.Goals as goal

pub overflow_sub-digits : goal.overflow_sub-digits
overflow_sub-digits c =
    (moved-digits c.args.input.now c.args.at c.args.len c.eight_bytes.result c.requires.few c.requires.room c.requires.digits c.eight_bytes.ensures).below

pub overflow_mul-pairs : goal.overflow_mul-pairs
overflow_mul-pairs c =
    let m = moved-digits c.args.input.now c.args.at c.args.len c.eight_bytes.result c.requires.few c.requires.room c.requires.digits c.eight_bytes.ensures in
    omega (arith, word-small m.eight)

pub overflow_add-pairs : goal.overflow_add-pairs
overflow_add-pairs c =
    let m = moved-digits c.args.input.now c.args.at c.args.len c.eight_bytes.result c.requires.few c.requires.room c.requires.digits c.eight_bytes.ensures in
    omega (arith, word-small m.eight)

pub returns-clause-value : goal.returns-clause-value
returns-clause-value c =
    let m = moved-digits c.args.input.now c.args.at c.args.len c.eight_bytes.result c.requires.few c.requires.room c.requires.digits c.eight_bytes.ensures in
    joined-is m.eight

pub returns-clause-small : goal.returns-clause-small
returns-clause-small c =
    let m = moved-digits c.args.input.now c.args.at c.args.len c.eight_bytes.result c.requires.few c.requires.room c.requires.digits c.eight_bytes.ensures in
    joined-small m.eight
