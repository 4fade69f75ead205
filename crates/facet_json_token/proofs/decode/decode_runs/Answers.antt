-- What was appended to nothing is the text; only a lack of memory refuses what has one.
use Rattle.facet_json_token.proofs.DecodeLaws.{decoded-decodes}
use Rattle.facet_json_token.proofs.FaultSteps.{refused-memory}
use Rattle.facet_json_token.proofs.decode.decode_runs.Goals as goal

pub returns-in-Ok-clause-text : goal.returns-in-Ok-clause-text
returns-in-Ok-clause-text c = let done = c.in-Ok.ensures.decodes in decoded-decodes _ _ done

pub returns-in-Ok-clause-only : goal.returns-in-Ok-clause-only
returns-in-Ok-clause-only c = let found = decoded-decodes _ _ c.in-Ok.ensures.decodes in λ text e. cc

pub returns-in-Err-clause-only : goal.returns-in-Err-clause-only
returns-in-Err-clause-only c = λ text e. refused-memory c.args.buf.now text c.args.start c.args.end _ c.in-Err.ensures.refused e
