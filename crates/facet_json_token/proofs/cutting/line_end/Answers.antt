-- The line ends with the byte after the run, if there is one.
use Rattle.std.proofs.Common.{arith}
use Rattle.std.proofs.lemmas.List.{length-drop}
use Rattle.facet_json_token.proofs.CommentRuns.{line_end-here, line_end-none}
use Rattle.facet_json_token.proofs.cutting.line_end.Goals as goal

pub returns-then-end-buffer-clause-end : goal.returns-then-end-buffer-clause-end
returns-then-end-buffer-clause-end c = line_end-here c.args.buffer.now c.args.from c.run_end-end.result c.run_end-end.ensures.value (omega arith)

pub returns-else-end-buffer-clause-end : goal.returns-else-end-buffer-clause-end
returns-else-end-buffer-clause-end c =
    line_end-none c.args.buffer.now c.args.from c.run_end-end.result (omega (arith, length-drop c.args.from c.args.buffer.now)) c.run_end-end.ensures.value
    (omega (arith, c.run_end-end.ensures.within))
