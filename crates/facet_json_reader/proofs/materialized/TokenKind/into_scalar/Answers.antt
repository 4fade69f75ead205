use Rattle.std.proofs.Common.{rules}
use Rattle.facet_json_reader.proofs.materialized.TokenKind.into_scalar.Goals as goal

pub returns-in_ok-digits-in-U128 : goal.returns-in_ok-digits-in-U128
returns-in_ok-digits-in-U128 c = search rules

pub returns-in_err-digits-in-U128 : goal.returns-in_err-digits-in-U128
returns-in_err-digits-in-U128 c = search rules

pub returns-in_default : goal.returns-in_default
returns-in_default c = search rules
