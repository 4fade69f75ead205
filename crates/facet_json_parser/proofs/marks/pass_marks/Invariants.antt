-- The bytes up to a front are passed, and the marks from there on are left.
use Rattle.std.proofs.Common.{◌≡◌, ◌≤◌, ◌<◌, ◌-◌, ◌+◌, ℕ, false, length}
use Rattle.facet_format.specs.Event.{ContainerKind}
use Rattle.facet_format.specs.Span.{Span, stop}
use Rattle.facet_format.specs.Views.{span_of}
use Rattle.facet_json_token.specs.Views.{mode_of}
use Rattle.facet_json_parser.specs.Inner.Leads.{RunComesTo, whole, AreOpen}
use Rattle.facet_json_parser.specs.Inner.Marks.{test, inside, is_marked}
use Rattle.facet_json_parser.specs.Inner.Passing.{IsPassed}
use Rattle.facet_json_parser.proofs.marks.pass_marks.Given as goal

abbrev pub invariant-loop-left : goal.invariant-loop-left
invariant-loop-left l = record {
  is_open : AreOpen l.contexts;
  front : ℕ;
  low : front ≤ 64;
  zeros : (i : ℕ) → i < front → test l.left i ≡ false;
  ones : (i : ℕ) → front ≤ i → i < 64 → test l.left i ≡ is_marked l.fn.passage.within l.fn.v i;
  bytes : IsPassed l.input (mode_of l.mode) (stop (span_of l.passed)) (l.at + front) (inside l.fn.passage.within l.fn.v front);
  onward : stop (span_of l.fn.passage.passed) ≤ stop (span_of l.passed);
  leads : (kind : ContainerKind) (first : Span) → RunComesTo l.input (mode_of l.mode) l.fn.contexts (span_of l.fn.passage.passed) (whole l.input (mode_of l.mode) kind first)
      → RunComesTo l.input (mode_of l.mode) l.contexts (span_of l.passed) (whole l.input (mode_of l.mode) kind first);
}

abbrev pub decreases-loop-left : goal.decreases-loop-left
decreases-loop-left l = length l.input - stop (span_of l.passed)
