use Rattle.std.proofs.Common.{sym}
use Rattle.facet_format.specs.Views.{hint_of}
use Rattle.facet_format.proofs.NumberText.{number-none}
use Rattle.facet_json_token.proofs.ShortNumbers.{short-number}
use Rattle.facet_json_token.proofs.number.number.Goals as goal

pub returns-in_err-number_parts-clause-number : goal.returns-in_err-number_parts-clause-number
returns-in_err-number_parts-clause-number c =
    rw c.from_residual.ensures (sym (number-none c.args.text.now (hint_of c.args.hint) c.in_err-number_parts.ensures))

pub returns-in-Some-clause-number : goal.returns-in-Some-clause-number
returns-in-Some-clause-number c =
    let short = c.in-Some.ensures in
    rw c.in-Unsigned.is (short-number c.args.text.now c.in-Some.n short.0 short.1 short.2)
