use Rattle.facet_json_token.proofs.EscapeSteps.{short_of-none}
use Rattle.facet_json_token.proofs.decode.escape.short_at.Goals as goal

pub returns-then-byte-ge128-clause-none : goal.returns-then-byte-ge128-clause-none
returns-then-byte-ge128-clause-none c = short_of-none c.args.byte c.if-byte-ge128.true
