use Rattle.std.proofs.Common.{ap, ◌∙◌}
use Rattle.facet_json_tree.specs.Views.{pairs_view}
use Rattle.facet_json_tree.proofs.Edits.{set_member-new}
use Rattle.facet_json_tree.proofs.edit.push_member.Goals as goal

pub returns-in-Ok-clause-stored : goal.returns-in-Ok-clause-stored
returns-in-Ok-clause-stored c = ap pairs_view c.in-Ok.ensures.items ∙ set_member-new c.args.members.now.items c.args.name c.args.value c.requires
