-- What is left of the items begins where the search stands.
use Rattle.std.proofs.Common.{◌≡◌, suc}
use Rattle.std.specs.Prelude.{slice_get}
use Rattle.facet_json_document.specs.Nodes.{items}
use Rattle.facet_json_document.specs.Inner.Looking.{from}
use Rattle.facet_json_document.proofs.document.value.Value.item_of_list.Given as goal

abbrev pub invariant-loop-left : goal.invariant-loop-left
invariant-loop-left l = slice_get (items 0 (from l.fn.self (suc l.fn.self.index))) l.fn.index ≡ slice_get (items 0 (from l.fn.self l.at)) l.left

abbrev pub decreases-loop-left : goal.decreases-loop-left
decreases-loop-left l = l.left
