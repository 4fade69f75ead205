use Rattle.std.proofs.lemmas.Result.{err_from_is_err_and}
use Rattle.facet_json_command.proofs.Printing.{stops_behind}
use Rattle.facet_json_command.proofs.tokens.write_tokens.Goals as goal

pub returns-in_err-write_token-clause-printed : goal.returns-in_err-write_token-clause-printed
returns-in_err-write_token-clause-printed g c =
    let p = err_from_is_err_and c.from_residual.result c.from_residual.ensures.1 in
    rw (p.1, p.2) (stops_behind _ _ _ _ _ c.loop-token.invariant.printed c.in_err-write_token.ensures.printed)
