use Rattle.std.proofs.Common.{◌<◌, ◌≤◌, arith}
use Rattle.std.proofs.lemmas.Result.{err_from_is_err_and}
use Rattle.facet_format.specs.Views.{refusal_of}
use Rattle.facet_json_core.specs.Refusing.{of_a_type}
use Rattle.facet_json_core.proofs.Meaning.Refusals.{keeps-there}
use Rattle.facet_json_core.proofs.Refusing.{last-passed}
use Rattle.facet_json_row_values.proofs.PercentLaws.{percent-read, percent-refused, percent-unread}
use Rattle.facet_json_row_values.proofs.own.PercentFacet.read_owned.Goals as goal

pub returns-in_err-number-clause-unread : goal.returns-in_err-number-clause-unread
returns-in_err-number-clause-unread c =
    let p = err_from_is_err_and c.from_residual.result c.from_residual.ensures.1 in
    rw (p.1, p.2) (percent-unread _ (refusal_of c.in_err-number.field-0.0) c.in_err-number.ensures.unread)

pub returns-then-number-le100-clause-read : goal.returns-then-number-le100-clause-read
returns-then-number-le100-clause-read c =
    let number = c.in_ok-number.number in
    let fits : number ≤ 100 = omega (arith, c.if-number-le100.true) in
    percent-read _ _ number fits c.in_ok-number.ensures.read

pub returns-else-number-le100-clause-unread : goal.returns-else-number-le100-clause-unread
returns-else-number-le100-clause-unread c =
    let number = c.in_ok-number.number in
    let more : 100 < number = omega (arith, c.if-number-le100.false) in
    percent-refused _ _ number (refusal_of c.too_much.result) more c.in_ok-number.ensures.read

pub returns-else-number-le100-clause-tells : goal.returns-else-number-le100-clause-tells
returns-else-number-le100-clause-tells c =
    let read = c.in_ok-number.ensures in
    of_a_type _ read.free (last-passed (keeps-there c.read_owned.ensures.keeps) read.shorter) (rw (← c.last_span.ensures.told) c.too_much.ensures.about)
