use Rattle.std.proofs.Common.{length}
use Rattle.facet_json_lint.proofs.shown.cut_to.Given as goal

abbrev pub decreases-loop-side : goal.decreases-loop-side
decreases-loop-side l = length l.kept.rest.now
