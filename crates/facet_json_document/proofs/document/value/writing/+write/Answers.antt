use Rattle.std.proofs.Common.{sym, rules, arith}
use Rattle.std.proofs.lemmas.Result.{err_from_is_err_and}
use Rattle.facet_json_document.proofs.NodesSeen.{empty-value, list-of, object-of, leaf-of, nothing-of}
use Rattle.facet_json_document.proofs.NodesWritten.{items-begun, members-begun, item-written, member-written, key-refused, items-ended, members-ended}
use Rattle.facet_json_document.proofs.document.value.writing.+write.Goals as goal

pub write_items-returns-clause-written : goal.write_items-returns-clause-written
write_items-returns-clause-written t c =
    (items-ended c.args.value.now _ _ _ c.loop-next.at _ c.loop-next.invariant.left c.in_default.ensures c.end_seq.ensures.appends).written

pub write_items-returns-clause-refused : goal.write_items-returns-clause-refused
write_items-returns-clause-refused t c =
    (items-ended c.args.value.now _ _ _ c.loop-next.at _ c.loop-next.invariant.left c.in_default.ensures c.end_seq.ensures.appends).refused

pub write_items-returns-clause-spent : goal.write_items-returns-clause-spent
write_items-returns-clause-spent t c =
    (items-ended c.args.value.now _ _ _ c.loop-next.at _ c.loop-next.invariant.left c.in_default.ensures c.end_seq.ensures.appends).spent

pub write_members-returns-clause-written : goal.write_members-returns-clause-written
write_members-returns-clause-written t c =
    (members-ended c.args.value.now _ _ _ c.loop-key.at _ c.loop-key.invariant.left c.in_default.ensures c.end_struct.ensures.appends).written

pub write_members-returns-clause-refused : goal.write_members-returns-clause-refused
write_members-returns-clause-refused t c =
    (members-ended c.args.value.now _ _ _ c.loop-key.at _ c.loop-key.invariant.left c.in_default.ensures c.end_struct.ensures.appends).refused

pub write_members-returns-clause-spent : goal.write_members-returns-clause-spent
write_members-returns-clause-spent t c =
    (members-ended c.args.value.now _ _ _ c.loop-key.at _ c.loop-key.invariant.left c.in_default.ensures c.end_struct.ensures.appends).spent

pub write_value-returns-in_default-clause-written : goal.write_value-returns-in_default-clause-written
write_value-returns-in_default-clause-written t c = rw (empty-value c.args.value.now c.in_default.ensures) c.write_nothing.ensures.written

pub write_value-returns-then-is_list-clause-written : goal.write_value-returns-then-is_list-clause-written
write_value-returns-then-is_list-clause-written t c =
    rw (list-of c.args.value.now _ c.in-Some.ensures (sym (c.if-is_list.ensures _))) c.write_items.ensures.written

pub write_value-returns-then-is_object-clause-written : goal.write_value-returns-then-is_object-clause-written
write_value-returns-then-is_object-clause-written t c =
    rw (object-of c.args.value.now _ c.in-Some.ensures (sym (c.if-is_object.ensures _))) c.write_members.ensures.written

pub write_value-returns-in-Some-leaf-clause-written : goal.write_value-returns-in-Some-leaf-clause-written
write_value-returns-in-Some-leaf-clause-written t c =
    rw (leaf-of c.args.value.now _ _ c.in-Some.ensures c.in-Some-leaf.ensures) c.write_leaf.ensures.written

pub write_value-returns-in-None-clause-written : goal.write_value-returns-in-None-clause-written
write_value-returns-in-None-clause-written t c =
    rw (nothing-of c.args.value.now _ c.in-Some.ensures c.in-None.ensures (sym (c.if-is_list.ensures _)) (sym (c.if-is_object.ensures _)))
    c.write_nothing-in-None.ensures.written

pub write_items-loop-next-init : goal.write_items-loop-next-init
write_items-loop-next-init t c = record {
  left = items-begun c.args.value.now _ _ c.in_ok-begin_seq.ensures.appends;
  ahead = search rules;
  within = search rules;
}

pub write_items-loop-next-preserved : goal.write_items-loop-next-preserved
write_items-loop-next-preserved t c =
    let item = c.in-Some.ensures in
    record {
      left = item-written c.args.value.now c.at.result _ _ _ c.loop-next.at _ c.loop-next.invariant.left item c.in_ok-write_value.ensures.written
          c.at.ensures.same c.at.ensures.index;
      ahead = search rules;
      within = item.within;
    }

pub write_members-loop-key-init : goal.write_members-loop-key-init
write_members-loop-key-init t c = record {
  left = members-begun c.args.value.now _ _ c.in_ok-begin_struct.ensures.appends;
  ahead = search rules;
  within = search rules;
}

pub write_members-returns-in_err-field_key-clause-refused : goal.write_members-returns-in_err-field_key-clause-refused
write_members-returns-in_err-field_key-clause-refused t c =
    let p = err_from_is_err_and c.from_residual-in_err-field_key.result c.from_residual-in_err-field_key.ensures.1 in
    rw (p.1, p.2) (key-refused c.args.value.now _ _ _ c.loop-key.at _ _ _ c.loop-key.invariant.left c.in-Some.ensures c.in_err-field_key.ensures.appends).0

pub write_members-returns-in_err-field_key-clause-spent : goal.write_members-returns-in_err-field_key-clause-spent
write_members-returns-in_err-field_key-clause-spent t c =
    let p = err_from_is_err_and c.from_residual-in_err-field_key.result c.from_residual-in_err-field_key.ensures.1 in
    rw (p.1) (key-refused c.args.value.now _ _ _ c.loop-key.at _ _ _ c.loop-key.invariant.left c.in-Some.ensures c.in_err-field_key.ensures.appends).1

pub write_members-loop-key-preserved : goal.write_members-loop-key-preserved
write_members-loop-key-preserved t c =
    let member = c.in-Some.ensures in
    record {
      left = member-written c.args.value.now c.at.result _ _ _ _ c.loop-key.at _ _ _ c.loop-key.invariant.left member c.in_ok-field_key.ensures.appends
          c.in_ok-write_value.ensures.written c.at.ensures.same c.at.ensures.index (omega arith);
      ahead = search rules;
      within = member.within;
    }
