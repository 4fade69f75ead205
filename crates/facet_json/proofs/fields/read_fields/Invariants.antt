use Rattle.std.proofs.Common.{◌≡◌, false}
use Rattle.facet_json_grammar.specs.Now.{ahead}
use Rattle.facet_json.specs.Fields.{keys, table}
use Rattle.facet_json.proofs.FieldSteps.{IsUnderWay}
use Rattle.facet_json.proofs.fields.read_fields.Given as goal

abbrev pub invariant-loop-slots : goal.invariant-loop-slots
invariant-loop-slots g l = record {
  way : IsUnderWay (table g.F.Fields.start (g.F.Fields.step l.fn.borrows) g.F.Fields.ends) (keys l.fn.names) l.fn.parser (g.F.Fields.seen l.slots) l.parser;
  owned : l.fn.borrows ≡ false → g.F.Fields.owned_slots l.slots;
}

abbrev pub decreases-loop-slots : goal.decreases-loop-slots
decreases-loop-slots g l = ahead l.parser
