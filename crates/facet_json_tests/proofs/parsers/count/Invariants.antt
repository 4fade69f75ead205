use Rattle.std.proofs.Common.{◌+◌, ◌≤◌}
use Rattle.facet_json_tests.proofs.parsers.count.Given as goal

abbrev pub invariant-loop-event : goal.invariant-loop-event
invariant-loop-event g l = l.count + g.P.FormatParser.ahead l.parser ≤ g.P.FormatParser.ahead l.initial.parser

abbrev pub decreases-loop-event : goal.decreases-loop-event
decreases-loop-event g l = g.P.FormatParser.ahead l.parser
