-- What the run comes to stays so.
use Rattle.std.proofs.Common.{◌≤◌, ◌-◌, length}
use Rattle.facet_format.specs.Span.{stop}
use Rattle.facet_format.specs.Views.{span_of}
use Rattle.facet_json_token.specs.Views.{mode_of}
use Rattle.facet_json_parser.specs.Inner.Leads.{StaysOn}
use Rattle.facet_json_parser.proofs.run.pass_tokens.Given as goal

abbrev pub invariant-loop-innermost : goal.invariant-loop-innermost
invariant-loop-innermost l = record {
  ends : stop (span_of l.passed) ≤ length l.input;
  onward : stop (span_of l.fn.first) ≤ stop (span_of l.passed);
  leads : StaysOn l.input (mode_of l.mode) l.fn.brackets (span_of l.fn.first) l.contexts (span_of l.passed);
}

abbrev pub decreases-loop-innermost : goal.decreases-loop-innermost
decreases-loop-innermost l = length l.input - stop (span_of l.passed)
