-- Some events were consumed.
use Rattle.std.proofs.Common.{◌≤◌, ◌-◌, length}
use Rattle.facet_format.specs.Event.{array}
use Rattle.facet_json_reader.specs.Inner.InSight.{GoesFarIn}
use Rattle.facet_json_reader.proofs.in_sight.pass_items.Given as goal

abbrev pub invariant-loop-takes : goal.invariant-loop-takes
invariant-loop-takes g l = record {
  far : GoesFarIn (g.T.Takes.takes l.input) l.input g.L.InLanguage.language array l.fn.from l.fn.takes l.front l.takes;
  onward : l.fn.from.at ≤ l.front.at;
}

abbrev pub decreases-loop-takes : goal.decreases-loop-takes
decreases-loop-takes g l = length l.input - l.front.at
