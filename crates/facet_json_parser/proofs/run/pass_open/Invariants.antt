-- What the run comes to stays so.
use Rattle.std.proofs.Common.{◌≤◌, ◌-◌, length}
use Rattle.facet_format.specs.Span.{stop}
use Rattle.facet_format.specs.Views.{span_of}
use Rattle.facet_json_token.specs.Views.{mode_of}
use Rattle.facet_json_parser.specs.Inner.Leads.{StaysOn}
use Rattle.facet_json_parser.proofs.OpenRuns.{left_of}
use Rattle.facet_json_parser.proofs.run.pass_open.Given as goal

abbrev pub invariant-loop-alloc : goal.invariant-loop-alloc
invariant-loop-alloc l = record {
  onward : stop (span_of l.fn.first) ≤ stop (span_of l.passed);
  ends : stop (span_of l.passed) ≤ length l.input;
  leads : StaysOn l.input (mode_of l.mode) l.fn.contexts (span_of l.fn.first) l.contexts (span_of l.passed);
}

abbrev pub decreases-loop-alloc : goal.decreases-loop-alloc
decreases-loop-alloc l = left_of l.contexts (length l.input - stop (span_of l.passed))
