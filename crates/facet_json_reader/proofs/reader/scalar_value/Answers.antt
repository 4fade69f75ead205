use Rattle.std.proofs.Common.{inr, rules}
use Rattle.std.proofs.lemmas.Result.{err_from_is_err_and}
use Rattle.facet_json_reader.proofs.reader.scalar_value.Goals as goal

pub returns-in_err-read : goal.returns-in_err-read
returns-in_err-read c =
    λ kind k.
    let p = err_from_is_err_and c.from_residual.result c.from_residual.ensures.1 in
    let m = rw k at c.in_err-read.ensures.refused in
    rw (p.1, p.2) (inr m)

pub returns-in_default : goal.returns-in_default
returns-in_default c = search rules

pub returns-in-Ok : goal.returns-in-Ok
returns-in-Ok c = search rules

pub returns-in-Err : goal.returns-in-Err
returns-in-Err c = search rules
