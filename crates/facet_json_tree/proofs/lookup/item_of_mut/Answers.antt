use Rattle.std.proofs.Common.{sym, arith}
use Rattle.facet_json_tree.proofs.Lookups.{item_at-read, item_at-past}
use Rattle.facet_json_tree.proofs.lookup.item_of_mut.Goals as goal

pub returns-then-index-items : goal.returns-then-index-items
returns-then-index-items c = item_at-read c.args.items.now c.args.index _ (omega arith) c.index-items-index.is

pub returns-else-index-items : goal.returns-else-index-items
returns-else-index-items c = sym (item_at-past c.args.items.now c.args.index (omega arith))
