use Rattle.std.proofs.Common.{◌+◌, ◌≤◌}
use Rattle.facet_json_tests.proofs.parsers.skipped.Given as goal

abbrev pub invariant-loop-count : goal.invariant-loop-count
invariant-loop-count g l = l.count + g.P.FormatParser.ahead l.parser ≤ g.P.FormatParser.ahead l.initial.parser

abbrev pub decreases-loop-count : goal.decreases-loop-count
decreases-loop-count g l = g.P.FormatParser.ahead l.parser
