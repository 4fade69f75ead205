use Rattle.std.proofs.Common.{rules}
use Rattle.facet_json_parser.proofs.lookahead.Lookahead.lend.Goals as goal

pub returns-in_default : goal.returns-in_default
returns-in_default c = search rules

pub returns-in_err-event : goal.returns-in_err-event
returns-in_err-event c = search rules

pub returns : goal.returns
returns c = search rules
