-- What is passed so far leads on, and a gap ends there.
use Rattle.std.proofs.Common.{◌-◌, length}
use Rattle.facet_json_token.specs.Views.{mode_of}
use Rattle.facet_json_parser.specs.Inner.Quiet.{RunLeadsOn, EndsGap}
use Rattle.facet_json_parser.proofs.quiet.past_quiet.Given as goal

abbrev pub invariant-loop-end : goal.invariant-loop-end
invariant-loop-end l = record {
  leads : RunLeadsOn l.input (mode_of l.mode) l.fn.position l.at;
  gap : EndsGap l.input (mode_of l.mode) l.at;
}

abbrev pub decreases-loop-end : goal.decreases-loop-end
decreases-loop-end l = length l.input - l.at
