-- The calls of a value that is begun, as it goes on.
use Rattle.std.proofs.Common.{◌≡◌, ℕ, List, [], ◌∷◌, ◌++◌, Some, None, refl, sym, ap, ◌∙◌, append_assoc, append-nil}
use Rattle.std.proofs.lemmas.Bool.{true≢false}
use Rattle.facet_json_grammar.specs.Tree.{Tree, list, pairs, Trees, no_trees, tree, Pairs, no_pairs, pair}
use Rattle.facet_format.specs.SerializerCall.{begin_struct, field_key, end_struct, begin_seq, end_seq}
use Rattle.facet_json_serializer.specs.TreeCalls.{tree_calls, item_calls, member_calls}
use Rattle.facet_json_serde.specs.Begun.{in_items, in_members, levels_calls, with_item, with_pair, ValueStands, KeyBegins, ListBegins, StructBegins, ListEnds, StructEnds}

item-last : (items : Trees) (t : Tree) → item_calls (with_item items t) ≡ item_calls items ++ tree_calls t
unfolding item_calls
item-last no_trees t = append-nil (tree_calls t)
item-last (tree first others) t = ap (λ calls. tree_calls first ++ calls) (item-last others t) ∙ sym (append_assoc (tree_calls first) (item_calls others) (tree_calls t))

member-last : (members : Pairs) (key : List ℕ) (t : Tree) → member_calls (with_pair members key t) ≡ member_calls members ++ field_key key ∷ tree_calls t
unfolding member_calls
member-last no_pairs key t = ap (λ calls. field_key key ∷ calls) (append-nil (tree_calls t))
member-last (pair name value others) key t =
    ap (λ calls. field_key name ∷ (tree_calls value ++ calls)) (member-last others key t)
    ∙ ap (λ calls. field_key name ∷ calls) (sym (append_assoc (tree_calls value) (member_calls others) (field_key key ∷ tree_calls t)))

pub value_stands : ValueStands
value_stands t [] awaits = refl
value_stands t (in_items items ∷ around) awaits =
    ap (λ calls. levels_calls around ++ begin_seq ∷ calls) (item-last items t)
    ∙ sym (append_assoc (levels_calls around) (begin_seq ∷ item_calls items) (tree_calls t))
value_stands t (in_members members None ∷ around) awaits = absurd (true≢false (sym awaits))
value_stands t (in_members members (Some key) ∷ around) awaits =
    ap (λ calls. levels_calls around ++ begin_struct ∷ calls)
    (append-nil (member_calls (with_pair members key t)) ∙ member-last members key t
    ∙ sym (append_assoc (member_calls members) (field_key key ∷ []) (tree_calls t)))
    ∙ sym (append_assoc (levels_calls around) (begin_struct ∷ (member_calls members ++ field_key key ∷ [])) (tree_calls t))

pub key_begins : KeyBegins
key_begins members key around =
    ap (λ calls. levels_calls around ++ begin_struct ∷ (calls ++ field_key key ∷ [])) (sym (append-nil (member_calls members)))
    ∙ sym (append_assoc (levels_calls around) (begin_struct ∷ (member_calls members ++ [])) (field_key key ∷ []))

pub list_begins : ListBegins
unfolding item_calls
list_begins levels = refl

pub struct_begins : StructBegins
unfolding member_calls
struct_begins levels = refl

pub list_ends : ListEnds
unfolding tree_calls
list_ends items around awaits =
    value_stands (list items) around awaits
    ∙ sym (append_assoc (levels_calls around) (begin_seq ∷ item_calls items) (end_seq ∷ []))

pub struct_ends : StructEnds
unfolding tree_calls
struct_ends members around awaits =
    value_stands (pairs members) around awaits
    ∙ ap (λ calls. levels_calls around ++ begin_struct ∷ (calls ++ end_struct ∷ [])) (sym (append-nil (member_calls members)))
    ∙ sym (append_assoc (levels_calls around) (begin_struct ∷ (member_calls members ++ [])) (end_struct ∷ []))
