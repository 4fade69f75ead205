use Rattle.std.proofs.lemmas.Result.{on_ok_weaker}
use Rattle.std.proofs.lemmas.Str.{is_utf8-from_IsUtf8}
use Rattle.facet_json_tree.proofs.OfRust.{member-of_rust}
use Rattle.facet_json.proofs.MemberCalls.{member-written}
use Rattle.facet_json.proofs.lent.NeedRefLentFields.write_members.Goals as goal

pub returns-clause-written : goal.returns-clause-written
returns-clause-written g c =
    let step = rw c.first-name.ensures at c.in_ok-field_key.ensures.appends in
    let others = rw c.after_first.ensures at c.write_members.ensures.written in
    on_ok_weaker c.write_members.result (λ more. member-written _ _ _ _ _ _ _ step c.in_ok-write.ensures.written more) others

pub returns-clause-of_rust : goal.returns-clause-of_rust
returns-clause-of_rust g c =
    let utf8 = rw (c.as_bytes-utf8.ensures.value, c.first-name.ensures) at c.as_bytes-utf8.ensures.utf8 in
    let others = rw c.after_first.ensures at c.write_members.ensures.of_rust in
    on_ok_weaker c.write_members.result (λ more. member-of_rust _ _ _ (is_utf8-from_IsUtf8 _ utf8) c.in_ok-write.ensures.of_rust more) others

pub returns-clause-always : goal.returns-clause-always
returns-clause-always g c = on_ok_weaker c.write_members.result (λ more. (c.in_ok-write.ensures.always, more)) c.write_members.ensures.always
