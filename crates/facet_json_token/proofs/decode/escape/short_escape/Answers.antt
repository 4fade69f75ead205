use Rattle.std.proofs.Common.{rules}
use Rattle.facet_json_token.proofs.decode.escape.short_escape.Goals as goal

pub returns-in-98-clause-ascii : goal.returns-in-98-clause-ascii
returns-in-98-clause-ascii c = search rules

pub returns-in-102-clause-ascii : goal.returns-in-102-clause-ascii
returns-in-102-clause-ascii c = search rules
