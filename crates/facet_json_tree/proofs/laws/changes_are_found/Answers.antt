use Rattle.facet_json_tree.proofs.EditLaws.{set-is_found, set-keeps_others, dropped-is_gone, drop-keeps_others}
use Rattle.facet_json_tree.proofs.laws.changes_are_found.Goals as goal

pub returns-clause-set : goal.returns-clause-set
returns-clause-set c = set-is_found

pub returns-clause-set_keeps : goal.returns-clause-set_keeps
returns-clause-set_keeps c = set-keeps_others

pub returns-clause-gone : goal.returns-clause-gone
returns-clause-gone c = dropped-is_gone

pub returns-clause-drop_keeps : goal.returns-clause-drop_keeps
returns-clause-drop_keeps c = drop-keeps_others
