-- What is left to be written of a list's items and an object's members, as their nodes tell.
use Rattle.std.proofs.Common.{◌≡◌, ◌+◌, ℕ, suc, List, [], Option, None, Result, Ok, Err, ap, ◌∙◌, subst, arith}
use Rattle.facet_format.specs.SerializerCall.{begin_struct, field_key, end_struct, begin_seq, end_seq}
use Rattle.facet_json_grammar.specs.Tree.{list, pairs}
use Rattle.facet_json_serializer.specs.Serializer.{Writing, WriteRefusal, out_of_memory, Appends}
use Rattle.facet_json_serializer.specs.Views.{call_answer_of}
use Rattle.facet_json_serializer.specs.declared.error.JsonSerializeError.{JsonSerializeError}
use Rattle.facet_json_tree.specs.Write.{HasWritten}
use Rattle.facet_json_tree.proofs.CallsLeft.{Ended}
use Rattle.facet_json_tree.proofs.Containers as written
use Rattle.facet_json_document.specs.Nodes.{items, members, first_value, value_view}
use Rattle.facet_json_document.specs.Inner.Looking.{from, trees_from, pairs_from, trees_at, pairs_at, IsItem, MemberStands}
use Rattle.facet_json_document.specs.declared.document.value.Value.{Value}
use Rattle.facet_json_document.proofs.NodesSeen.{nodes-at, tree-first, pair-first}

-- The list was begun, and the items from this index on are left, and its end.
abbrev pub ItemsLeft : Value → Option Writing → ℕ → Option Writing → Type 0
ItemsLeft v old at now = written.ItemsLeft old (trees_at v (suc v.index)) (trees_at v at) now

-- The object was begun, and the members from this index on are left, and its end.
abbrev pub MembersLeft : Value → Option Writing → ℕ → Option Writing → Type 0
MembersLeft v old at now = written.MembersLeft old (pairs_at v (suc v.index)) (pairs_at v at) now

pub items-begun : (v : Value) (old new : Option Writing) → Appends old begin_seq (Ok tt) new → ItemsLeft v old (v.index + 1) new
items-begun v old new step =
    let behind : suc v.index ≡ v.index + 1 = omega arith in
    subst (λ at. ItemsLeft v old at new) behind (written.list-begun old new (trees_at v (suc v.index)) step)

pub members-begun : (v : Value) (old new : Option Writing) → Appends old begin_struct (Ok tt) new → MembersLeft v old (v.index + 1) new
members-begun v old new step =
    let behind : suc v.index ≡ v.index + 1 = omega arith in
    subst (λ at. MembersLeft v old at new) behind (written.object-begun old new (pairs_at v (suc v.index)) step)

pub item-written : (v w : Value) (old now new : Option Writing) (at to : ℕ) → ItemsLeft v old at now → IsItem v at to → HasWritten now (value_view w) new →
    w.document.now ≡ v.document.now → w.index ≡ at → ItemsLeft v old to new
item-written v w old now new at to left item wrote same index =
    let seen : value_view w ≡ first_value (from v at) = ap first_value (nodes-at v w at same index) in
    written.item-written old now new _ _ (trees_at v to) _ (tree-first v at to item) left (subst (λ u. HasWritten now u new) seen wrote)

pub key-refused : (v : Value) (old now new : Option Writing) (at to : ℕ) (name : List ℕ) (why : WriteRefusal) → MembersLeft v old at now →
    MemberStands v at name to → Appends now (field_key name) (Err why) new → (why ≡ out_of_memory) × (new ≡ None)
key-refused v old now new at to name why left member step =
    written.key-refused old now new _ _ (pairs_at v to) name _ why (pair-first v at to name member) left step

pub member-written : (v w : Value) (old now keyed new : Option Writing) (at behind to : ℕ) (name : List ℕ) → MembersLeft v old at now → MemberStands v at name to →
    Appends now (field_key name) (Ok tt) keyed → HasWritten keyed (value_view w) new → w.document.now ≡ v.document.now → w.index ≡ behind → behind ≡ suc at →
    MembersLeft v old to new
member-written v w old now keyed new at behind to name left member step wrote same index b =
    let seen : value_view w ≡ first_value (from v (suc at)) = ap first_value (nodes-at v w (suc at) same (index ∙ b)) in
    written.member-written old now keyed new _ _ (pairs_at v to) name _ (pair-first v at to name member) left step (subst (λ u. HasWritten keyed u new) seen wrote)

pub items-ended : (v : Value) (old now new : Option Writing) (at : ℕ) (r : Result (Unit {0}) JsonSerializeError) → ItemsLeft v old at now →
    items 0 (from v at) ≡ [] → Appends now end_seq (call_answer_of r) new → Ended old (list (trees_at v (suc v.index))) r new
items-ended v old now new at r left none step = written.list-ended old now new _ _ r (ap trees_from none) left step

pub members-ended : (v : Value) (old now new : Option Writing) (at : ℕ) (r : Result (Unit {0}) JsonSerializeError) → MembersLeft v old at now →
    members 0 (from v at) ≡ [] → Appends now end_struct (call_answer_of r) new → Ended old (pairs (pairs_at v (suc v.index))) r new
members-ended v old now new at r left none step = written.object-ended old now new _ _ r (ap pairs_from none) left step
