-- Another mark is behind a token, or the number that ends there.
use Rattle.std.proofs.Common.{get_or, arith, sym, ◌∙◌, ◌==◌}
use Rattle.std.proofs.lemmas.Bool.{or_parts}
use Rattle.std.proofs.lemmas.Option.{slice_get-get_or}
use Rattle.facet_format.specs.Bytes.{dot, is_exponent_mark}
use Rattle.facet_json_parser.proofs.PassedBytes.{finish, uncalm-no_digit}
use Rattle.facet_json_parser.proofs.marks.token_start.Goals as goal

pub returns-then-goes_on_number-clause-on : goal.returns-then-goes_on_number-clause-on
returns-then-goes_on_number-clause-on c = λ mode o calm. c.number_start.ensures.on mode o

pub returns-else-goes_on_number-clause-on : goal.returns-else-goes_on_number-clause-on
returns-else-goes_on_number-clause-on c = λ mode o calm.
    let b = get_or c.args.input.now c.args.mark 0 in
    let here = slice_get-get_or c.args.input.now c.args.mark 0 (omega (arith, c.requires)) in
    let other = or_parts (b == dot) (is_exponent_mark b) (sym c.goes_on_number.ensures ∙ c.if-goes_on_number.false) in
    finish c.args.input.now mode c.args.settled c.args.mark b o here (uncalm-no_digit b calm) other.0 other.1
