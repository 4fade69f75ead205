-- How a reader of a tree moves its parser on, event by event.
use Rattle.std.proofs.Common.{Some, Ok, refl, arith}
use Rattle.facet_format.specs.Event.{Event}
use Rattle.facet_format.specs.Cursor.{next, event}
use Rattle.facet_format.specs.Steps.{IsStep}
use Rattle.facet_json_grammar.specs.Now.{Now, StandsAt}
use Rattle.facet_json_core.specs.Meaning.Nodes.{KeepsOn}
use Rattle.facet_json_core.specs.Meaning.Passing.{MovesOn}
use Rattle.facet_json_core.proofs.Meaning.Keeping.{keeps-then}
use Rattle.facet_json_core.proofs.Meaning.Walks.NextOnWalk.{answer-walks}
use Rattle.facet_json_core.proofs.Meaning.OfTrees.TreeOnWalk.{moves_trans, moves_past}
use Rattle.facet_json_tree.specs.Inner.Reading.{LeadsOn}

-- ---- on a walk

-- An event that is passed moves the parser on.
pub moves-next : {old new : Now} {e : Event} → IsStep StandsAt old next (event (Ok (Some e))) new → MovesOn old new
moves-next {old = old} {new = new} {e = e} steps = moves_past old new e (answer-walks old new e (event (Ok (Some e))) refl steps)

-- What led to where an event is passed leads behind it.
pub leads-past : {a b c : Now} → LeadsOn a b → MovesOn b c → LeadsOn a c
leads-past {a = a} {b = b} {c = c} first moved before to_a = moves_trans before b c (first before to_a) moved

-- What goes on from where an item began leads on behind the item.
pub leads-behind : {a b c d : Now} → LeadsOn a b → MovesOn b c → LeadsOn c d → LeadsOn a d
leads-behind first moved last before to_a = last before (leads-past first moved before to_a)

-- ---- what is kept

-- A parser to which nothing is done keeps its points.
pub keeps-none : {now : Now} → KeepsOn now now
keeps-none {now = now} = record {
  input = record { buffer = refl; language = refl };
  kept = λ point spot e. e;
  onward = omega arith;
  by_calls = λ first led. led;
}

-- A parser that goes on three times keeps its points.
pub keeps-behind : {a b c d : Now} → KeepsOn a b → KeepsOn b c → KeepsOn c d → KeepsOn a d
keeps-behind {a = a} {b = b} {c = c} {d = d} first second third = keeps-then a c d (keeps-then a b c first second) third
