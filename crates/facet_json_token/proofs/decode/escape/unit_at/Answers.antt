-- What the four bytes after a backslash and `u` stand for.
use Rattle.std.proofs.Common.{◌≡◌, ◌+◌, drop, Some, None, codes, length, sym, ap, ◌∙◌, arith}
use Rattle.std.proofs.lemmas.Result.{err_from_is_err_and}
use Rattle.facet_format.specs.Complaint.{unexpected_eof}
use Rattle.facet_json_token.specs.Decoded.{low_at}
use Rattle.facet_json_token.specs.Fault.{decode_fault_at, no_character}
use Rattle.facet_json_token.specs.FirstFault.{pair_fault}
use Rattle.facet_json_token.proofs.EscapeSteps.{Finds, unit-cut, unit-no_digits, unit-scalar, unit-low, unit-high, told-over}
use Rattle.facet_json_token.proofs.decode.escape.unit_at.Goals as goal

pub returns-then-rest-lt6-clause-none : goal.returns-then-rest-lt6-clause-none
returns-then-rest-lt6-clause-none c = (unit-cut c.args.rest.now c.requires.backslash c.requires.letter c.if-rest-lt6.true).0

pub returns-then-rest-lt6-clause-refused : goal.returns-then-rest-lt6-clause-refused
returns-then-rest-lt6-clause-refused c =
    let rest = c.args.rest.now in
    let fault = (unit-cut rest c.requires.backslash c.requires.letter c.if-rest-lt6.true).1 in
    let place : c.new.result.offset ≡ c.args.at + 0 = omega (arith, c.new.ensures.offset) in
    rw fault
    (told-over (unexpected_eof (codes "in unicode escape")) c.new.result (c.args.at + 0) (length rest) place c.new.ensures.len)

pub returns-in_err-unit-clause-none : goal.returns-in_err-unit-clause-none
returns-in_err-unit-clause-none c =
    let nothing = unit-no_digits c.args.rest.now c.requires.backslash c.requires.letter c.if-rest-lt6.false c.in_err-unit.ensures.none in
    rw (err_from_is_err_and c.from_residual.result c.from_residual.ensures.1).1 nothing.0

pub returns-in_err-unit-clause-refused : goal.returns-in_err-unit-clause-refused
returns-in_err-unit-clause-refused c =
    let nothing = unit-no_digits c.args.rest.now c.requires.backslash c.requires.letter c.if-rest-lt6.false c.in_err-unit.ensures.none in
    let p = err_from_is_err_and c.from_residual.result c.from_residual.ensures.1 in
    rw (p.1, p.2, nothing.1) c.in_err-unit.ensures.refused

high_half : (c : goal.After-pair_at) →
    let after = drop 6 c.args.rest.now in Finds c.args.rest.now (low_at c.in_ok-unit.unit after) (pair_fault after)
high_half c =
    unit-high c.args.rest.now c.in_ok-unit.unit c.requires.backslash c.requires.letter c.if-rest-lt6.false c.in_ok-unit.ensures.unit
    (sym c.if-is_high_surrogate.ensures)

pub returns-then-is_high_surrogate-clause-found : goal.returns-then-is_high_surrogate-clause-found
returns-then-is_high_surrogate-clause-found c = simp (high_half c).0 c.pair_at.ensures.found

pub returns-then-is_high_surrogate-clause-none : goal.returns-then-is_high_surrogate-clause-none
returns-then-is_high_surrogate-clause-none c = simp (high_half c).0 c.pair_at.ensures.none

pub returns-then-is_high_surrogate-clause-refused : goal.returns-then-is_high_surrogate-clause-refused
returns-then-is_high_surrogate-clause-refused c = rw (high_half c).1 c.pair_at.ensures.refused

pub returns-in-Some-clause-found : goal.returns-in-Some-clause-found
returns-in-Some-clause-found c =
    unit-scalar c.args.rest.now c.in_ok-unit.unit c.requires.backslash c.requires.letter c.if-rest-lt6.false c.in_ok-unit.ensures.unit
    (sym c.if-is_high_surrogate.ensures) c.in-Some.ensures.cases
    ∙ ap (λ k. Some (k, 6)) (sym c.in-Some.ensures.value.1)

low_half : (c : goal.After-not_utf8) → Finds c.args.rest.now None (decode_fault_at no_character 2 4)
low_half c =
    unit-low c.args.rest.now c.in_ok-unit.unit c.requires.backslash c.requires.letter c.if-rest-lt6.false c.in_ok-unit.ensures.unit
    (sym c.if-is_high_surrogate.ensures) c.in_ok-unit.ensures.range c.in-None.ensures.cases

pub returns-in-None-clause-none : goal.returns-in-None-clause-none
returns-in-None-clause-none c = (low_half c).0

pub returns-in-None-clause-refused : goal.returns-in-None-clause-refused
returns-in-None-clause-refused c = rw (low_half c).1 c.not_utf8.ensures
