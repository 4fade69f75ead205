use Rattle.facet_json_tree.proofs.OfRust.{no_member-of_rust}
use Rattle.facet_json.proofs.MemberCalls.{none-written}
use Rattle.facet_json.proofs.lent.DoneLentFields.write_members.Goals as goal

pub returns-clause-written : goal.returns-clause-written
returns-clause-written c = none-written _

pub returns-clause-of_rust : goal.returns-clause-of_rust
returns-clause-of_rust c = no_member-of_rust

pub returns-clause-always : goal.returns-clause-always
returns-clause-always c = tt
