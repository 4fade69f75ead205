use Rattle.facet_json_tree.proofs.CallsLeft.{last-ended}
use Rattle.facet_json_facet.proofs.ScalarsOfRust.{on-ok}
use Rattle.facet_json.proofs.MemberCalls.{end-left}
use Rattle.facet_json.proofs.lent.write_fields.Goals as goal

pub returns-clause-written : goal.returns-clause-written
returns-clause-written g c =
    let left = end-left _ _ _ _ c.in_ok-begin_struct.ensures.appends c.in_ok-write_members.ensures.written in
    (last-ended _ _ _ _ _ c.end_struct.result left c.end_struct.ensures.appends).written

pub returns-clause-refused : goal.returns-clause-refused
returns-clause-refused g c =
    let left = end-left _ _ _ _ c.in_ok-begin_struct.ensures.appends c.in_ok-write_members.ensures.written in
    (last-ended _ _ _ _ _ c.end_struct.result left c.end_struct.ensures.appends).refused

pub returns-clause-spent : goal.returns-clause-spent
returns-clause-spent g c =
    let left = end-left _ _ _ _ c.in_ok-begin_struct.ensures.appends c.in_ok-write_members.ensures.written in
    (last-ended _ _ _ _ _ c.end_struct.result left c.end_struct.ensures.appends).spent

pub returns-clause-always : goal.returns-clause-always
returns-clause-always g c = on-ok (g.F.LentFields.always c.args.fields.now) c.end_struct.result c.in_ok-write_members.ensures.always
