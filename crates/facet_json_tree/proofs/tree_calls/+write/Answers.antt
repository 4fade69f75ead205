use Rattle.std.proofs.Common.{◌≡◌, ◌<◌, true, refl, sym, ap, ◌∙◌, subst, arith, rules, w64, SFits}
use Rattle.std.specs.Prelude.{◌^◌}
use Rattle.std.specs.Char.{IsScalar}
use Rattle.std.specs.Int.{w128}
use Rattle.std.specs.Fmt.{signed_decimal}
use Rattle.std.proofs.lemmas.Int.{to_z-of_z}
use Rattle.std.specs.Str.{is_utf8}
use Rattle.std.proofs.lemmas.List.{drop_all}
use Rattle.std.proofs.lemmas.Result.{err_from_is_err_and}
use Rattle.std.proofs.lemmas.Str.{is_utf8-from_IsUtf8, IsUtf8-string_bytes}
use Rattle.facet_format.specs.Event as event
use Rattle.facet_json_grammar.specs.Text.{text}
use Rattle.facet_json_grammar.specs.Tree.{list, pairs}
use Rattle.facet_json_grammar.specs.Tree as tree
use Rattle.facet_format.specs.SerializerCall.{scalar}
use Rattle.facet_json_serializer.specs.Serializer.{Appends}
use Rattle.facet_json_serializer.specs.Views.{call_answer_of}
use Rattle.facet_json_tree.specs.Views.{tree_view, trees_view, pairs_view}
use Rattle.facet_json_tree.proofs.TreeViews.{tree_view-Null, tree_view-Unit, tree_view-Bool, tree_view-Char, tree_view-I64, tree_view-U64, tree_view-I128, tree_view-U128, tree_view-Decimal, tree_view-Text, tree_view-Bytes, tree_view-Raw, tree_view-Pairs, trees_view-drop, pairs_view-drop, pairs_view-keyed}
use Rattle.facet_json_grammar.specs.AsRead.{WellFormed, RawParts}
use Rattle.facet_json_tree.specs.Write.{IsOfRust}
use Rattle.facet_json_tree.proofs.Containers.{list-begun, item-written, list-ended, object-begun, key-refused, member-written, object-ended}
use Rattle.facet_json_tree.proofs.OfRust.{item-of_rust, no_item-of_rust, member-of_rust, no_member-of_rust, fits-within, seen-of_rust}
use Rattle.facet_json_tree.proofs.ScalarCalls.{scalar-called, raw-called, raw-ended}
use Rattle.facet_json_tree.proofs.tree_calls.+write.Goals as goal

pub write_tree-returns-in-Null-clause-written : goal.write_tree-returns-in-Null-clause-written
unfolding text
write_tree-returns-in-Null-clause-written t c =
    (raw-called _ _ _ (tree_view c.args.tree.now) _ (λ o depth. ap (text o depth) (sym (ap tree_view c.in-Null.is ∙ tree_view-Null))) c.write_raw.ensures).written

pub write_tree-returns-in-Null-clause-refused : goal.write_tree-returns-in-Null-clause-refused
write_tree-returns-in-Null-clause-refused t c = (raw-ended _ _ _ _ c.write_raw.ensures).refused

pub write_tree-returns-in-Null-clause-spent : goal.write_tree-returns-in-Null-clause-spent
write_tree-returns-in-Null-clause-spent t c = (raw-ended _ _ _ _ c.write_raw.ensures).spent

pub write_tree-returns-in-Null-clause-of_rust : goal.write_tree-returns-in-Null-clause-of_rust
unfolding WellFormed RawParts
write_tree-returns-in-Null-clause-of_rust t c = seen-of_rust _ _ _ (ap tree_view c.in-Null.is ∙ tree_view-Null) (tt, tt)

pub write_tree-returns-in-Unit-clause-written : goal.write_tree-returns-in-Unit-clause-written
unfolding text
write_tree-returns-in-Unit-clause-written t c =
    (raw-called _ _ _ (tree_view c.args.tree.now) _ (λ o depth. ap (text o depth) (sym (ap tree_view c.in-Unit.is ∙ tree_view-Unit))) c.write_raw-in-Unit.ensures).written

pub write_tree-returns-in-Unit-clause-refused : goal.write_tree-returns-in-Unit-clause-refused
write_tree-returns-in-Unit-clause-refused t c = (raw-ended _ _ _ _ c.write_raw-in-Unit.ensures).refused

pub write_tree-returns-in-Unit-clause-spent : goal.write_tree-returns-in-Unit-clause-spent
write_tree-returns-in-Unit-clause-spent t c = (raw-ended _ _ _ _ c.write_raw-in-Unit.ensures).spent

pub write_tree-returns-in-Unit-clause-of_rust : goal.write_tree-returns-in-Unit-clause-of_rust
unfolding WellFormed RawParts
write_tree-returns-in-Unit-clause-of_rust t c = seen-of_rust _ _ _ (ap tree_view c.in-Unit.is ∙ tree_view-Unit) (tt, tt)

pub write_tree-returns-in-Bool-clause-written : goal.write_tree-returns-in-Bool-clause-written
unfolding text
write_tree-returns-in-Bool-clause-written t c =
    (raw-called _ _ _ (tree_view c.args.tree.now) _ (λ o depth. ap (text o depth) (sym (ap tree_view c.in-Bool.is ∙ tree_view-Bool _))) c.write_bool.ensures).written

pub write_tree-returns-in-Bool-clause-refused : goal.write_tree-returns-in-Bool-clause-refused
write_tree-returns-in-Bool-clause-refused t c = (raw-ended _ _ _ _ c.write_bool.ensures).refused

pub write_tree-returns-in-Bool-clause-spent : goal.write_tree-returns-in-Bool-clause-spent
write_tree-returns-in-Bool-clause-spent t c = (raw-ended _ _ _ _ c.write_bool.ensures).spent

pub write_tree-returns-in-Bool-clause-of_rust : goal.write_tree-returns-in-Bool-clause-of_rust
unfolding WellFormed RawParts
write_tree-returns-in-Bool-clause-of_rust t c = seen-of_rust _ _ _ (ap tree_view c.in-Bool.is ∙ tree_view-Bool _) (tt, tt)

pub write_tree-returns-in-Char-clause-written : goal.write_tree-returns-in-Char-clause-written
write_tree-returns-in-Char-clause-written t c =
    (scalar-called _ _ (event.char c.in-Char.c) _ _ (ap tree_view c.in-Char.is ∙ tree_view-Char _) c.write_char.ensures).written

pub write_tree-returns-in-Char-clause-refused : goal.write_tree-returns-in-Char-clause-refused
write_tree-returns-in-Char-clause-refused t c = (scalar-called _ _ (event.char c.in-Char.c) _ _ refl c.write_char.ensures).refused

pub write_tree-returns-in-Char-clause-spent : goal.write_tree-returns-in-Char-clause-spent
write_tree-returns-in-Char-clause-spent t c = (scalar-called _ _ (event.char c.in-Char.c) _ _ refl c.write_char.ensures).spent

pub write_tree-returns-in-Char-clause-of_rust : goal.write_tree-returns-in-Char-clause-of_rust
unfolding WellFormed RawParts
write_tree-returns-in-Char-clause-of_rust t c =
    let is : IsScalar c.in-Char.c = search rules in
    seen-of_rust _ _ _ (ap tree_view c.in-Char.is ∙ tree_view-Char _) (is, tt)

pub write_tree-returns-in-Text-clause-written : goal.write_tree-returns-in-Text-clause-written
write_tree-returns-in-Text-clause-written t c =
    let seen = ap tree_view c.in-Text.is ∙ tree_view-Text _ ∙ ap tree.text (sym c.as_str-in-Text.ensures.value) in
    (scalar-called _ _ (event.text (event.borrowed c.as_str-in-Text.result.now)) _ _ seen c.write_text.ensures).written

pub write_tree-returns-in-Text-clause-refused : goal.write_tree-returns-in-Text-clause-refused
write_tree-returns-in-Text-clause-refused t c = (scalar-called _ _ (event.text (event.borrowed c.as_str-in-Text.result.now)) _ _ refl c.write_text.ensures).refused

pub write_tree-returns-in-Text-clause-spent : goal.write_tree-returns-in-Text-clause-spent
write_tree-returns-in-Text-clause-spent t c = (scalar-called _ _ (event.text (event.borrowed c.as_str-in-Text.result.now)) _ _ refl c.write_text.ensures).spent

pub write_tree-returns-in-Text-clause-of_rust : goal.write_tree-returns-in-Text-clause-of_rust
unfolding WellFormed RawParts
write_tree-returns-in-Text-clause-of_rust t c =
    seen-of_rust _ _ _ (ap tree_view c.in-Text.is ∙ tree_view-Text _) (is_utf8-from_IsUtf8 _ (IsUtf8-string_bytes c.in-Text.text), tt)

pub write_tree-returns-in-I64-clause-written : goal.write_tree-returns-in-I64-clause-written
write_tree-returns-in-I64-clause-written t c =
    let fits : SFits w64 c.in-I64.n = search rules in
    let called = subst (λ n. Appends c.args.serializer.now (scalar (event.i64 n)) (call_answer_of c.write_signed.result) c.write_signed.new.serializer)
    (to_z-of_z w64 c.in-I64.n fits) c.write_signed.ensures in
    (scalar-called _ _ (event.i64 c.in-I64.n) _ _ (ap tree_view c.in-I64.is ∙ tree_view-I64 _) called).written

pub write_tree-returns-in-I64-clause-refused : goal.write_tree-returns-in-I64-clause-refused
write_tree-returns-in-I64-clause-refused t c = (scalar-called _ _ (event.i64 _) _ _ refl c.write_signed.ensures).refused

pub write_tree-returns-in-I64-clause-spent : goal.write_tree-returns-in-I64-clause-spent
write_tree-returns-in-I64-clause-spent t c = (scalar-called _ _ (event.i64 _) _ _ refl c.write_signed.ensures).spent

pub write_tree-returns-in-I64-clause-of_rust : goal.write_tree-returns-in-I64-clause-of_rust
unfolding WellFormed RawParts
write_tree-returns-in-I64-clause-of_rust t c =
    let fits : SFits w64 c.in-I64.n = search rules in
    seen-of_rust _ _ _ (ap tree_view c.in-I64.is ∙ tree_view-I64 _) (fits-within w64 c.in-I64.n fits, tt)

pub write_tree-returns-in-U64-clause-written : goal.write_tree-returns-in-U64-clause-written
write_tree-returns-in-U64-clause-written t c =
    (scalar-called _ _ (event.u64 c.in-U64.n) _ _ (ap tree_view c.in-U64.is ∙ tree_view-U64 _) c.write_unsigned.ensures).written

pub write_tree-returns-in-U64-clause-refused : goal.write_tree-returns-in-U64-clause-refused
write_tree-returns-in-U64-clause-refused t c = (scalar-called _ _ (event.u64 c.in-U64.n) _ _ refl c.write_unsigned.ensures).refused

pub write_tree-returns-in-U64-clause-spent : goal.write_tree-returns-in-U64-clause-spent
write_tree-returns-in-U64-clause-spent t c = (scalar-called _ _ (event.u64 c.in-U64.n) _ _ refl c.write_unsigned.ensures).spent

pub write_tree-returns-in-U64-clause-of_rust : goal.write_tree-returns-in-U64-clause-of_rust
unfolding WellFormed RawParts
write_tree-returns-in-U64-clause-of_rust t c =
    let fits : c.in-U64.n < 2 ^ 64 = search rules in
    seen-of_rust _ _ _ (ap tree_view c.in-U64.is ∙ tree_view-U64 _) (fits, tt)

pub write_tree-returns-in-I128-clause-written : goal.write_tree-returns-in-I128-clause-written
unfolding text
write_tree-returns-in-I128-clause-written t c =
    let fits : SFits w128 c.in-I128.n = search rules in
    (raw-called _ _ _ (tree_view c.args.tree.now) _ (λ o depth. ap signed_decimal (to_z-of_z w128 c.in-I128.n fits) ∙ ap (text o depth) (sym (ap tree_view c.in-I128.is ∙ tree_view-I128 _))) c.write_number.ensures).written

pub write_tree-returns-in-I128-clause-refused : goal.write_tree-returns-in-I128-clause-refused
write_tree-returns-in-I128-clause-refused t c = (raw-ended _ _ _ _ c.write_number.ensures).refused

pub write_tree-returns-in-I128-clause-spent : goal.write_tree-returns-in-I128-clause-spent
write_tree-returns-in-I128-clause-spent t c = (raw-ended _ _ _ _ c.write_number.ensures).spent

pub write_tree-returns-in-I128-clause-of_rust : goal.write_tree-returns-in-I128-clause-of_rust
unfolding WellFormed RawParts
write_tree-returns-in-I128-clause-of_rust t c =
    let fits : SFits w128 c.in-I128.n = search rules in
    seen-of_rust _ _ _ (ap tree_view c.in-I128.is ∙ tree_view-I128 _) (fits-within w128 c.in-I128.n fits, tt)

pub write_tree-returns-in-U128-clause-written : goal.write_tree-returns-in-U128-clause-written
unfolding text
write_tree-returns-in-U128-clause-written t c =
    (raw-called _ _ _ (tree_view c.args.tree.now) _ (λ o depth. ap (text o depth) (sym (ap tree_view c.in-U128.is ∙ tree_view-U128 _))) c.write_number-in-U128.ensures).written

pub write_tree-returns-in-U128-clause-refused : goal.write_tree-returns-in-U128-clause-refused
write_tree-returns-in-U128-clause-refused t c = (raw-ended _ _ _ _ c.write_number-in-U128.ensures).refused

pub write_tree-returns-in-U128-clause-spent : goal.write_tree-returns-in-U128-clause-spent
write_tree-returns-in-U128-clause-spent t c = (raw-ended _ _ _ _ c.write_number-in-U128.ensures).spent

pub write_tree-returns-in-U128-clause-of_rust : goal.write_tree-returns-in-U128-clause-of_rust
unfolding WellFormed RawParts
write_tree-returns-in-U128-clause-of_rust t c =
    let fits : c.in-U128.n < 2 ^ 128 = search rules in
    seen-of_rust _ _ _ (ap tree_view c.in-U128.is ∙ tree_view-U128 _) (fits, tt)

pub write_tree-returns-in-Decimal-clause-written : goal.write_tree-returns-in-Decimal-clause-written
unfolding text
write_tree-returns-in-Decimal-clause-written t c =
    (raw-called _ _ _ (tree_view c.args.tree.now) _ (λ o depth. c.as_str.ensures.text ∙ ap (text o depth) (sym (ap tree_view c.in-Decimal.is ∙ tree_view-Decimal _))) c.write_raw-in-Decimal.ensures).written

pub write_tree-returns-in-Decimal-clause-refused : goal.write_tree-returns-in-Decimal-clause-refused
write_tree-returns-in-Decimal-clause-refused t c = (raw-ended _ _ _ _ c.write_raw-in-Decimal.ensures).refused

pub write_tree-returns-in-Decimal-clause-spent : goal.write_tree-returns-in-Decimal-clause-spent
write_tree-returns-in-Decimal-clause-spent t c = (raw-ended _ _ _ _ c.write_raw-in-Decimal.ensures).spent

pub write_tree-returns-in-Decimal-clause-of_rust : goal.write_tree-returns-in-Decimal-clause-of_rust
unfolding WellFormed RawParts
write_tree-returns-in-Decimal-clause-of_rust t c =
    seen-of_rust _ _ _ (ap tree_view c.in-Decimal.is ∙ tree_view-Decimal _) ((c.as_str.ensures.number, tt))

pub write_tree-returns-in-Bytes-clause-written : goal.write_tree-returns-in-Bytes-clause-written
write_tree-returns-in-Bytes-clause-written t c =
    let seen = ap tree_view c.in-Bytes.is ∙ tree_view-Bytes _ ∙ ap tree.bytes (sym c.as_slice.ensures.value) in
    rw seen c.write_bytes.ensures.written

pub write_tree-returns-in-Bytes-clause-of_rust : goal.write_tree-returns-in-Bytes-clause-of_rust
write_tree-returns-in-Bytes-clause-of_rust t c =
    let seen = ap tree_view c.in-Bytes.is ∙ tree_view-Bytes _ ∙ ap tree.bytes (sym c.as_slice.ensures.value) in
    rw seen c.write_bytes.ensures.of_rust

pub write_tree-returns-in-Raw-clause-written : goal.write_tree-returns-in-Raw-clause-written
unfolding text
write_tree-returns-in-Raw-clause-written t c =
    (raw-called _ _ _ (tree_view c.args.tree.now) _ (λ o depth. c.as_str-in-Raw.ensures.value ∙ ap (text o depth) (sym (ap tree_view c.in-Raw.is ∙ tree_view-Raw _))) c.write_raw-in-Raw.ensures).written

pub write_tree-returns-in-Raw-clause-refused : goal.write_tree-returns-in-Raw-clause-refused
write_tree-returns-in-Raw-clause-refused t c = (raw-ended _ _ _ _ c.write_raw-in-Raw.ensures).refused

pub write_tree-returns-in-Raw-clause-spent : goal.write_tree-returns-in-Raw-clause-spent
write_tree-returns-in-Raw-clause-spent t c = (raw-ended _ _ _ _ c.write_raw-in-Raw.ensures).spent

pub write_tree-returns-in-Raw-clause-of_rust : goal.write_tree-returns-in-Raw-clause-of_rust
unfolding WellFormed RawParts
write_tree-returns-in-Raw-clause-of_rust t c =
    seen-of_rust _ _ _ (ap tree_view c.in-Raw.is ∙ tree_view-Raw _) ((tt, subst (λ json. is_utf8 json ≡ true) c.as_str-in-Raw.ensures.value (is_utf8-from_IsUtf8 _ c.as_str-in-Raw.utf8)))

pub write_tree-returns-in-Pairs-clause-written : goal.write_tree-returns-in-Pairs-clause-written
write_tree-returns-in-Pairs-clause-written t c =
    let given = ap (λ ps. pairs (pairs_view ps)) (sym c.deref-in-Pairs.ensures.value) in
    let seen = ap tree_view c.in-Pairs.is ∙ tree_view-Pairs _ ∙ given in
    rw seen c.write_pairs.ensures.written

pub write_tree-returns-in-Pairs-clause-of_rust : goal.write_tree-returns-in-Pairs-clause-of_rust
write_tree-returns-in-Pairs-clause-of_rust t c =
    let given = ap (λ ps. pairs (pairs_view ps)) (sym c.deref-in-Pairs.ensures.value) in
    let seen = ap tree_view c.in-Pairs.is ∙ tree_view-Pairs _ ∙ given in
    rw seen c.write_pairs.ensures.of_rust

pub write_list-loop-item-init : goal.write_list-loop-item-init
write_list-loop-item-init t c = (list-begun _ _ (trees_view c.args.items.now) c.in_ok-begin_seq.ensures.appends, λ h. h)

pub write_list-loop-item-preserved : goal.write_list-loop-item-preserved
write_list-loop-item-preserved t c =
    let l = c.loop-item in
    let xs = c.args.items.now in
    let wrote = c.in_ok-write_tree.ensures in
    let here = trees_view-drop xs l.item-index c.item-item.result (omega arith) c.item-item.is in (
      item-written _ _ _ (trees_view xs) _ _ _ here l.invariant.0 wrote.written,
      λ h. l.invariant.1 (subst (λ ts. IsOfRust (list ts)) (sym here) (item-of_rust _ _ wrote.of_rust h)),
    )

pub write_list-returns-clause-written : goal.write_list-returns-clause-written
write_list-returns-clause-written t c =
    let none = ap trees_view (drop_all c.loop-item.item-index c.args.items.now (omega arith)) in
    (list-ended _ _ _ (trees_view c.args.items.now) _ _ none c.loop-item.invariant.0 c.end_seq.ensures.appends).written

pub write_list-returns-clause-refused : goal.write_list-returns-clause-refused
write_list-returns-clause-refused t c =
    let none = ap trees_view (drop_all c.loop-item.item-index c.args.items.now (omega arith)) in
    (list-ended _ _ _ (trees_view c.args.items.now) _ _ none c.loop-item.invariant.0 c.end_seq.ensures.appends).refused

pub write_list-returns-clause-spent : goal.write_list-returns-clause-spent
write_list-returns-clause-spent t c =
    let none = ap trees_view (drop_all c.loop-item.item-index c.args.items.now (omega arith)) in
    (list-ended _ _ _ (trees_view c.args.items.now) _ _ none c.loop-item.invariant.0 c.end_seq.ensures.appends).spent

pub write_list-returns-clause-of_rust : goal.write_list-returns-clause-of_rust
write_list-returns-clause-of_rust t c =
    let none = ap trees_view (drop_all c.loop-item.item-index c.args.items.now (omega arith)) in
    let all = c.loop-item.invariant.1 (subst (λ ts. IsOfRust (list ts)) (sym none) no_item-of_rust) in
    seen-of_rust _ _ (list (trees_view c.args.items.now)) refl all

pub write_pairs-loop-member-init : goal.write_pairs-loop-member-init
write_pairs-loop-member-init t c = (object-begun _ _ (pairs_view c.args.members.now) c.in_ok-begin_struct.ensures.appends, λ h. h)

pub write_pairs-returns-in_err-field_key-clause-refused : goal.write_pairs-returns-in_err-field_key-clause-refused
write_pairs-returns-in_err-field_key-clause-refused t c =
    let l = c.loop-member in
    let here = pairs_view-keyed c.args.members.now l.member-index c.member-item.result _ (omega arith) c.member-item.is c.as_str.ensures.value in
    let p = err_from_is_err_and c.from_residual-in_err-field_key.result c.from_residual-in_err-field_key.ensures.1 in
    rw (p.1, p.2) (key-refused _ _ _ (pairs_view c.args.members.now) _ _ _ _ _ here l.invariant.0 c.in_err-field_key.ensures.appends).0

pub write_pairs-returns-in_err-field_key-clause-spent : goal.write_pairs-returns-in_err-field_key-clause-spent
write_pairs-returns-in_err-field_key-clause-spent t c =
    let l = c.loop-member in
    let here = pairs_view-keyed c.args.members.now l.member-index c.member-item.result _ (omega arith) c.member-item.is c.as_str.ensures.value in
    let p = err_from_is_err_and c.from_residual-in_err-field_key.result c.from_residual-in_err-field_key.ensures.1 in
    rw (p.1) (key-refused _ _ _ (pairs_view c.args.members.now) _ _ _ _ _ here l.invariant.0 c.in_err-field_key.ensures.appends).1

pub write_pairs-loop-member-preserved : goal.write_pairs-loop-member-preserved
write_pairs-loop-member-preserved t c =
    let l = c.loop-member in
    let ps = c.args.members.now in
    let p = c.member-item.result in
    let wrote = c.in_ok-write_tree.ensures in
    let here = pairs_view-drop ps l.member-index p (omega arith) c.member-item.is in
    let keyed = pairs_view-keyed ps l.member-index p _ (omega arith) c.member-item.is c.as_str.ensures.value in
    let key = is_utf8-from_IsUtf8 _ (IsUtf8-string_bytes p.0) in (
      member-written _ _ _ _ (pairs_view ps) _ _ _ _ keyed l.invariant.0 c.in_ok-field_key.ensures.appends wrote.written,
      λ h. l.invariant.1 (subst (λ qs. IsOfRust (pairs qs)) (sym here) (member-of_rust _ _ _ key wrote.of_rust h)),
    )

pub write_pairs-returns-clause-written : goal.write_pairs-returns-clause-written
write_pairs-returns-clause-written t c =
    let none = ap pairs_view (drop_all c.loop-member.member-index c.args.members.now (omega arith)) in
    (object-ended _ _ _ (pairs_view c.args.members.now) _ _ none c.loop-member.invariant.0 c.end_struct.ensures.appends).written

pub write_pairs-returns-clause-refused : goal.write_pairs-returns-clause-refused
write_pairs-returns-clause-refused t c =
    let none = ap pairs_view (drop_all c.loop-member.member-index c.args.members.now (omega arith)) in
    (object-ended _ _ _ (pairs_view c.args.members.now) _ _ none c.loop-member.invariant.0 c.end_struct.ensures.appends).refused

pub write_pairs-returns-clause-spent : goal.write_pairs-returns-clause-spent
write_pairs-returns-clause-spent t c =
    let none = ap pairs_view (drop_all c.loop-member.member-index c.args.members.now (omega arith)) in
    (object-ended _ _ _ (pairs_view c.args.members.now) _ _ none c.loop-member.invariant.0 c.end_struct.ensures.appends).spent

pub write_pairs-returns-clause-of_rust : goal.write_pairs-returns-clause-of_rust
write_pairs-returns-clause-of_rust t c =
    let none = ap pairs_view (drop_all c.loop-member.member-index c.args.members.now (omega arith)) in
    let all = c.loop-member.invariant.1 (subst (λ qs. IsOfRust (pairs qs)) (sym none) no_member-of_rust) in
    seen-of_rust _ _ (pairs (pairs_view c.args.members.now)) refl all
