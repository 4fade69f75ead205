-- What the run comes to stays so, and bytes are passed.
use Rattle.std.proofs.Common.{◌≡◌, ◌≤◌, ◌-◌, ◌+◌, ◌*◌, suc, true, cond, length}
use Rattle.facet_format.specs.Span.{stop}
use Rattle.facet_format.specs.Views.{span_of}
use Rattle.facet_json_token.specs.Views.{mode_of}
use Rattle.facet_json_parser.specs.Inner.Leads.{StaysOn, AreOpen}
use Rattle.facet_json_parser.specs.Inner.Passages.{IsPassage}
use Rattle.facet_json_parser.proofs.marks.pass_blocks.Given as goal

abbrev pub invariant-loop-passage : goal.invariant-loop-passage
invariant-loop-passage l = record {
  passage : IsPassage l.input (mode_of l.mode) l.passage;
  is_open : l.passage.goes_on ≡ true → AreOpen l.contexts;
  onward : stop (span_of l.fn.from) ≤ stop (span_of l.passage.passed);
  leads : StaysOn l.input (mode_of l.mode) l.fn.contexts (span_of l.fn.from) l.contexts (span_of l.passage.passed);
}

abbrev pub decreases-loop-passage : goal.decreases-loop-passage
decreases-loop-passage l = cond l.passage.goes_on (suc (2 * length l.input - (stop (span_of l.passage.passed) + l.passage.at))) 0
