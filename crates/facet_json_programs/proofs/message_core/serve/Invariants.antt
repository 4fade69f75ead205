use Rattle.std.proofs.Common.{◌-◌, ◌^◌}
use Rattle.facet_json_programs.proofs.message_core.serve.Given as goal

abbrev pub decreases-lines : goal.decreases-lines
decreases-lines g l = 2 ^ 64 - l.lines.number
