use Rattle.std.proofs.Common.{ap, ◌∙◌}
use Rattle.facet_json_tree.specs.Views.{trees_view}
use Rattle.facet_json_tree.proofs.Edits.{push_item-view}
use Rattle.facet_json_tree.proofs.edit.push_to.Goals as goal

pub returns-clause-stored : goal.returns-clause-stored
returns-clause-stored c = ap trees_view c.in_ok-push.ensures.items ∙ push_item-view c.args.items.now.items c.args.item
