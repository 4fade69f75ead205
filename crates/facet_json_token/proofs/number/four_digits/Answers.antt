-- Digits are at least `0`, and four of them are one step.
use Rattle.std.proofs.Common.{◌≡◌, ◌+◌, ◌-◌, ◌*◌, drop, get_or, ap, ◌∙◌, arith}
use Rattle.facet_format.specs.NumberValue.{digits_value}
use Rattle.facet_format.proofs.NumberText.{digit_at-above}
use Rattle.facet_json_token.proofs.DigitValues.{four-digits}
use Rattle.facet_json_token.proofs.number.four_digits.Goals as goal

pub overflow_sub-digits : goal.overflow_sub-digits
overflow_sub-digits c = digit_at-above c.args.digits.now c.args.at c.requires.digits (omega arith)

pub overflow_sub-digits-2 : goal.overflow_sub-digits-2
overflow_sub-digits-2 c = digit_at-above c.args.digits.now _ c.requires.digits (omega arith)

pub overflow_sub-digits-3 : goal.overflow_sub-digits-3
overflow_sub-digits-3 c = digit_at-above c.args.digits.now _ c.requires.digits (omega arith)

pub overflow_sub-digits-4 : goal.overflow_sub-digits-4
overflow_sub-digits-4 c = digit_at-above c.args.digits.now _ c.requires.digits (omega arith)

pub returns : goal.returns
returns c =
    let bytes = c.args.digits.now in
    let at = c.args.at in
    let own : (get_or bytes at 0 - 0x30) * 1000 + (get_or bytes (at + 1) 0 - 0x30) * 100 + (get_or bytes (at + 2) 0 - 0x30) * 10 + (get_or bytes (at + 3) 0 - 0x30)
    ≡ c.from-thousands.result * 1000 + c.from-hundreds.result * 100 + c.from-tens.result * 10 + c.from-ones.result =
    omega (arith, c.from-thousands.ensures, c.from-hundreds.ensures, c.from-tens.ensures, c.from-ones.ensures) in
    λ before. four-digits bytes at before c.requires.within ∙ ap (λ n. digits_value (before * 10000 + n) (drop (at + 4) bytes)) own
