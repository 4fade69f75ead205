-- A list or an object that is written part by part: which parts are left to be written, and what its end leaves.
use Rattle.std.proofs.Common.{◌≡◌, ℕ, List, [], ◌∷◌, ◌++◌, Option, None, Result, Ok, Err, refl, sym, ap, ◌∙◌, subst, append_assoc}
use Rattle.facet_format.specs.SerializerCall.{begin_struct, field_key, end_struct, begin_seq, end_seq}
use Rattle.facet_json_grammar.specs.Tree.{Tree, list, pairs, Trees, no_trees, tree, Pairs, no_pairs, pair}
use Rattle.facet_json_serializer.specs.Serializer.{Writing, WriteRefusal, out_of_memory, Appends}
use Rattle.facet_json_serializer.specs.TreeCalls.{tree_calls, item_calls, member_calls}
use Rattle.facet_json_serializer.specs.Views.{call_answer_of}
use Rattle.facet_json_serializer.specs.declared.error.JsonSerializeError.{JsonSerializeError}
use Rattle.facet_json_tree.specs.Write.{HasWritten}
use Rattle.facet_json_tree.proofs.CallsLeft.{AreLeft, Ended, call-made, first-made, tree-made, left-refused, left-spent, last-ended}

-- ---- lists

-- The list was begun, and of its items these are left, and its end.
abbrev pub ItemsLeft : Option Writing → Trees → Trees → Option Writing → Type 0
ItemsLeft old all rest now = AreLeft old (list all) (item_calls rest ++ end_seq ∷ []) now

pub list-begun : (old new : Option Writing) (all : Trees) → Appends old begin_seq (Ok tt) new → ItemsLeft old all all new
unfolding tree_calls
list-begun old new all step = first-made old new (list all) begin_seq _ refl step

pub item-written : (old now new : Option Writing) (all rest more : Trees) (t : Tree) → rest ≡ tree t more → ItemsLeft old all rest now
    → HasWritten now t new → ItemsLeft old all more new
unfolding item_calls
item-written old now new all rest more t is left wrote =
    let calls = ap (λ ts. item_calls ts ++ end_seq ∷ []) is ∙ append_assoc (tree_calls t) (item_calls more) (end_seq ∷ []) in
    tree-made old now new (list all) t _ (subst (λ s. AreLeft old (list all) s now) calls left) wrote

pub list-ended : (old now new : Option Writing) (all rest : Trees) (r : Result (Unit {0}) JsonSerializeError) → rest ≡ no_trees
    → ItemsLeft old all rest now → Appends now end_seq (call_answer_of r) new → Ended old (list all) r new
unfolding item_calls
list-ended old now new all rest r none left step =
    let calls = ap (λ ts. item_calls ts ++ end_seq ∷ []) none in
    last-ended old now new (list all) end_seq r (subst (λ s. AreLeft old (list all) s now) calls left) step

-- ---- objects

-- The object was begun, and of its members these are left, and its end.
abbrev pub MembersLeft : Option Writing → Pairs → Pairs → Option Writing → Type 0
MembersLeft old all rest now = AreLeft old (pairs all) (member_calls rest ++ end_struct ∷ []) now

pub object-begun : (old new : Option Writing) (all : Pairs) → Appends old begin_struct (Ok tt) new → MembersLeft old all all new
unfolding tree_calls
object-begun old new all step = first-made old new (pairs all) begin_struct _ refl step

-- the key of the first member that is left comes next
key-left : (old now : Option Writing) (all rest more : Pairs) (key : List ℕ) (t : Tree) → rest ≡ pair key t more → MembersLeft old all rest now
    → AreLeft old (pairs all) (field_key key ∷ (tree_calls t ++ (member_calls more ++ end_struct ∷ []))) now
unfolding member_calls
key-left old now all rest more key t is left =
    let after = append_assoc (tree_calls t) (member_calls more) (end_struct ∷ []) in
    let calls = ap (λ ms. member_calls ms ++ end_struct ∷ []) is ∙ ap (λ s. field_key key ∷ s) after in
    subst (λ s. AreLeft old (pairs all) s now) calls left

-- Its key is refused for lack of memory alone, and leaves none.
pub key-refused : (old now new : Option Writing) (all rest more : Pairs) (key : List ℕ) (t : Tree) (why : WriteRefusal) → rest ≡ pair key t more
    → MembersLeft old all rest now → Appends now (field_key key) (Err why) new → (why ≡ out_of_memory) × (new ≡ None)
key-refused old now new all rest more key t why is left step =
    let next = key-left old now all rest more key t is left in
    (left-refused old now new (pairs all) _ _ why next step, left-spent old now new (pairs all) _ _ why next step)

pub member-written : (old now keyed new : Option Writing) (all rest more : Pairs) (key : List ℕ) (t : Tree) → rest ≡ pair key t more
    → MembersLeft old all rest now → Appends now (field_key key) (Ok tt) keyed → HasWritten keyed t new → MembersLeft old all more new
member-written old now keyed new all rest more key t is left step wrote =
    tree-made old keyed new (pairs all) t _ (call-made old now keyed (pairs all) _ _ (key-left old now all rest more key t is left) step) wrote

pub object-ended : (old now new : Option Writing) (all rest : Pairs) (r : Result (Unit {0}) JsonSerializeError) → rest ≡ no_pairs
    → MembersLeft old all rest now → Appends now end_struct (call_answer_of r) new → Ended old (pairs all) r new
unfolding member_calls
object-ended old now new all rest r none left step =
    let calls = ap (λ ms. member_calls ms ++ end_struct ∷ []) none in
    last-ended old now new (pairs all) end_struct r (subst (λ s. AreLeft old (pairs all) s now) calls left) step
