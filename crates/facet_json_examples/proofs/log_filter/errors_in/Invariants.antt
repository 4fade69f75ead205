use Rattle.std.proofs.Common.{◌-◌, ◌^◌}
use Rattle.facet_json_examples.proofs.log_filter.errors_in.Given as goal

abbrev pub decreases-lines : goal.decreases-lines
decreases-lines g l = 2 ^ 64 - l.lines.number
