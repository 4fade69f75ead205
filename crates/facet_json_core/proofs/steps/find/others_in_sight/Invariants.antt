-- Members of other keys were passed, and the parser could stand behind them.
use Rattle.std.proofs.Common.{◌≡◌, ◌-◌, length}
use Rattle.facet_json_grammar.specs.Now.{Now}
use Rattle.facet_json_parser.specs.Inner.Sight.{standing, StandsThere}
use Rattle.facet_json_core.specs.Finding.{IsSearching}
use Rattle.facet_json_core.proofs.steps.find.others_in_sight.Given as goal

abbrev pub invariant-loop-key : goal.invariant-loop-key
invariant-loop-key l = record {
  same : l.parser ≡ l.fn.parser;
  stands : StandsThere (standing l.fn.parser l.at) l.at;
  far : (start : Now) → IsSearching l.name start l.fn.parser → IsSearching l.name start (standing l.fn.parser l.at);
}

abbrev pub decreases-loop-key : goal.decreases-loop-key
decreases-loop-key l = length l.input - l.at.at
