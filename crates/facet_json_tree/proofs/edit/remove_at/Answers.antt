use Rattle.std.proofs.Common.{ap, sym, ◌∙◌, arith}
use Rattle.facet_json_tree.specs.Views.{trees_view}
use Rattle.facet_json_tree.proofs.Edits.{drop_item-view, drop_item-past}
use Rattle.facet_json_tree.proofs.Lookups.{item_at-read, item_at-past}
use Rattle.facet_json_tree.proofs.edit.remove_at.Goals as goal

pub returns-then-index-len-clause-found : goal.returns-then-index-len-clause-found
returns-then-index-len-clause-found c = item_at-read c.args.items.now.items c.args.index _ (omega arith) c.remove.ensures.value

pub returns-then-index-len-clause-left : goal.returns-then-index-len-clause-left
returns-then-index-len-clause-left c = ap trees_view c.remove.ensures.items ∙ drop_item-view c.args.items.now.items c.args.index

pub returns-else-index-len-clause-found : goal.returns-else-index-len-clause-found
returns-else-index-len-clause-found c = sym (item_at-past c.args.items.now.items c.args.index (omega arith))

pub returns-else-index-len-clause-left : goal.returns-else-index-len-clause-left
returns-else-index-len-clause-left c = sym (drop_item-past c.args.items.now.items c.args.index (omega arith))
