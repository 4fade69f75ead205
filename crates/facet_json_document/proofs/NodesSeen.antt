-- What a value of a document tells of its nodes.
use Rattle.std.proofs.Common.{◌≡◌, ℕ, zero, suc, ◌+◌, ◌-◌, ◌<◌, ◌≤◌, Bool, true, false, List, [], ◌∷◌, map, drop, get_or, Option, Some, None, refl, sym, ap, ap₂, ◌∙◌, arith, subst}
use Rattle.std.specs.Prelude.{if◌then◌else◌, slice_get}
use Rattle.std.specs.Option.{unwrap_or, option_map, option_or}
use Rattle.std.proofs.lemmas.List.{drop-drop, drop_all, length-map}
use Rattle.std.proofs.lemmas.Option.{slice_get-get_or}
use Rattle.facet_format.specs.Event.{Scalar}
use Rattle.facet_format.specs.Event as event
use Rattle.facet_format.specs.NumberValue.{Number}
use Rattle.facet_format.specs.NumberValue as numbers
use Rattle.facet_format.specs.Views.{scalar_value_of}
use Rattle.facet_format.specs.declared.event.ScalarValue.{ScalarValue}
use Rattle.facet_json_core.specs.Told.{tree_of_scalar}
use Rattle.facet_json_grammar.specs.Tree.{Tree}
use Rattle.facet_json_grammar.specs.Tree as trees
use Rattle.facet_json_tree.specs.Content.{as_list, as_pairs}
use Rattle.facet_json_tree.specs.Lookup.{item, member}
use Rattle.facet_json_tree.specs.Same.{same_bytes}
use Rattle.facet_json_document.specs.Nodes.{Node, leaf, key, list, object, closing, nothing, inner_len, is_closing_node, is_leaf, is_key, is_list, is_object, items, members, list_items, object_members, last_named, value_beginning, first_value, values, len, trees_list, pairs_list, node_of, small_if_any, leaf_view, held_leaf, document_nodes, nodes_from, value_view, member_value}
use Rattle.facet_json_grammar.specs.Text.{Options, text}
use Rattle.facet_json_document.specs.Inner.PlainNumbers.{IsWrittenSo}
use Rattle.facet_json_document.specs.Inner.Looking.{HoldsOthers, of_nothing, of_list, of_object, IsLeaf, HasLeaf, TellsLeaf, many, from, seen, trees_from, pairs_from, trees_at, pairs_at, NodeStands, IsItem, MemberStands}
use Rattle.facet_json_document.specs.declared.document.node.Leaf.{Leaf as RustLeaf}
use Rattle.facet_json_document.specs.declared.document.node.Node.{Node as RustNode}
use Rattle.facet_json_document.specs.declared.document.node.NodeKind.{NodeKind}
use Rattle.facet_json_document.specs.declared.document.node.NodeKind.TheVariants as rust
use Rattle.facet_json_document.specs.declared.document.Document.{Document}
use Rattle.facet_json_document.specs.declared.document.value.Value.{Value}
use Rattle.facet_json_document.proofs.NodeTrees.{items-skip, members-skip, item-trees, member-trees, item_at-from, last-from, trees_list-from, pairs_list-from}

-- ---- nodes

there : {X : Type 0} (f : X → Node) (xs : List X) (at : ℕ) (x : X) → slice_get xs at ≡ Some x →
    drop at (map f xs) ≡ f x ∷ drop (suc at) (map f xs)
there f [] zero x e = cc
there f [] (suc at) x e = cc
there f (y ∷ xs) zero x e = let same : y ≡ x = cc in ap (λ z. f z ∷ map f xs) same
there f (y ∷ xs) (suc at) x e = there f xs at x e

-- A node that is read there stands there.
pub node-stands : (v : Value) (at : ℕ) (n : RustNode) → (at < many v) × ((d : RustNode) → n ≡ get_or v.document.now.nodes.items at d) →
    NodeStands v at (seen v n)
node-stands v at n h = record {
  within = h.0;
  here = there (seen v) v.document.now.nodes.items at n (slice_get-get_or v.document.now.nodes.items at n h.0 ∙ ap Some (sym (h.1 n)));
}

-- Behind all nodes none does.
pub no-node : (v : Value) (at : ℕ) → many v ≤ at → from v at ≡ []
no-node v at h = drop_all at (document_nodes v.document.now) (omega (arith, h, length-map v.document.now.nodes.items (seen v)))

-- Another value of the document, whose node has this index.
pub nodes-at : (v w : Value) (at : ℕ) → w.document.now ≡ v.document.now → w.index ≡ at → nodes_from w ≡ from v at
nodes-at v w at same index = ap₂ (λ (d : Document) k. drop k (document_nodes d)) same index

-- ---- the value at the node

pub empty-value : (v : Value) → from v v.index ≡ [] → value_view v ≡ nothing
empty-value v e = ap first_value e

pub value-stands : (v : Value) (n : Node) → NodeStands v v.index n → value_view v ≡ value_beginning n (values (from v (suc v.index)))
value-stands v n s = ap first_value s.here

not-leaf : (n : Node) (later : List (Node × Tree)) → is_leaf n ≡ false → HoldsOthers (value_beginning n later)
not-leaf (leaf text t) later e = cc
not-leaf (key name) later e = of_nothing
not-leaf (list text k) later e = of_list _
not-leaf (object text k) later e = of_object _
not-leaf closing later e = of_nothing

pub no-leaf : (v : Value) → from v v.index ≡ [] → IsLeaf (value_view v) None
no-leaf v e = subst HoldsOthers (sym (empty-value v e)) (of_nothing)

-- What holds no others is the node's leaf, and where there is none no value begins.
neither : (n : Node) (later : List (Node × Tree)) → is_leaf n ≡ false → is_list n ≡ false → is_object n ≡ false → value_beginning n later ≡ nothing
neither (leaf text t) later e f g = cc
neither (key name) later e f g = refl
neither (list text k) later e f g = cc
neither (object text k) later e f g = cc
neither closing later e f g = refl

has-leaf : (n : Node) (t : Tree) (later : List (Node × Tree)) → HasLeaf n t → value_beginning n later ≡ t
has-leaf (leaf text u) t later e = e
has-leaf (key name) t later e = absurd e
has-leaf (list text k) t later e = absurd e
has-leaf (object text k) t later e = absurd e
has-leaf closing t later e = absurd e

pub leaf-of : (v : Value) (n : Node) (l : RustLeaf) → NodeStands v v.index n → HasLeaf n (leaf_view l) → value_view v ≡ leaf_view l
leaf-of v n l s e = value-stands v n s ∙ has-leaf n (leaf_view l) (values (from v (suc v.index))) e

-- What is written so is the value's text.
pub written-so : (v : Value) (n : Node) (bytes : List ℕ) → NodeStands v v.index n → IsWrittenSo bytes n → (o : Options) (depth : ℕ) →
    bytes ≡ text o depth (value_view v)
written-so v (leaf own t) bytes s so o depth = so o depth ∙ ap (text o depth) (sym (value-stands v (leaf own t) s))
written-so v (key name) bytes s so o depth = absurd so
written-so v (list own k) bytes s so o depth = absurd so
written-so v (object own k) bytes s so o depth = absurd so
written-so v closing bytes s so o depth = absurd so

pub nothing-of : (v : Value) (n : Node) → NodeStands v v.index n → is_leaf n ≡ false → is_list n ≡ false → is_object n ≡ false → value_view v ≡ nothing
nothing-of v n s e f g = value-stands v n s ∙ neither n _ e f g

pub leaf-told : (v : Value) (n : Node) (answer : Option RustLeaf) → NodeStands v v.index n → TellsLeaf n answer → IsLeaf (value_view v) answer
leaf-told v n None s h = subst HoldsOthers (sym (value-stands v n s)) (not-leaf n _ h)
leaf-told v n (Some l) s h = leaf-of v n l s h

-- ---- what holds others

scalar-list : (s : Scalar) → as_list (unwrap_or (tree_of_scalar s) nothing) ≡ None
scalar-list event.null = refl
scalar-list _ = refl

scalar-pairs : (s : Scalar) → as_pairs (unwrap_or (tree_of_scalar s) nothing) ≡ None
scalar-pairs event.null = refl
scalar-pairs _ = refl

held-list : (o : Option ScalarValue) → as_list (held_leaf o) ≡ None
held-list None = refl
held-list (Some s) = scalar-list (scalar_value_of s)

held-pairs : (o : Option ScalarValue) → as_pairs (held_leaf o) ≡ None
held-pairs None = refl
held-pairs (Some s) = scalar-pairs (scalar_value_of s)

-- a number's bytes are neither
small-list : (o : Option Number) → as_list (small_if_any o) ≡ None
small-list None = refl
small-list (Some (numbers.u64 n)) = refl
small-list (Some (numbers.i64 n)) = refl
small-list (Some (numbers.decimal digits)) = refl
small-list (Some _) = refl

small-pairs : (o : Option Number) → as_pairs (small_if_any o) ≡ None
small-pairs None = refl
small-pairs (Some (numbers.u64 n)) = refl
small-pairs (Some (numbers.i64 n)) = refl
small-pairs (Some (numbers.decimal digits)) = refl
small-pairs (Some _) = refl

other-list : (k : NodeKind) (held : List ScalarValue) (more : ℕ) (text : List ℕ) (later : List (Node × Tree)) → is_list (node_of k held more text) ≡ false →
    as_list (value_beginning (node_of k held more text) later) ≡ None
other-list rust.Held held more text later e = held-list (slice_get held more)
other-list rust.Number held more text later e = small-list _
other-list rust.List held more text later e = cc
other-list _ held more text later e = refl

other-pairs : (k : NodeKind) (held : List ScalarValue) (more : ℕ) (text : List ℕ) (later : List (Node × Tree)) → is_object (node_of k held more text) ≡ false →
    as_pairs (value_beginning (node_of k held more text) later) ≡ None
other-pairs rust.Held held more text later e = held-pairs (slice_get held more)
other-pairs rust.Number held more text later e = small-pairs _
other-pairs rust.Object held more text later e = cc
other-pairs _ held more text later e = refl

a-list : (n : Node) → is_list n ≡ true → (text : List ℕ) × (inner : ℕ) × (n ≡ list text inner)
a-list (list text k) e = (text, k, refl)
a-list _ e = cc

an-object : (n : Node) → is_object n ≡ true → (text : List ℕ) × (inner : ℕ) × (n ≡ object text inner)
an-object (object text k) e = (text, k, refl)
an-object _ e = cc

-- The nodes from a list's on, and from an object's.
pub list-here : (v : Value) (n : Node) → NodeStands v v.index n → is_list n ≡ true →
    (text : List ℕ) × (inner : ℕ) × (nodes_from v ≡ list text inner ∷ from v (suc v.index))
list-here v n s e = let l = a-list n e in (l.0, l.1, s.here ∙ ap (λ m. m ∷ from v (suc v.index)) l.2)

pub object-here : (v : Value) (n : Node) → NodeStands v v.index n → is_object n ≡ true →
    (text : List ℕ) × (inner : ℕ) × (nodes_from v ≡ object text inner ∷ from v (suc v.index))
object-here v n s e = let o = an-object n e in (o.0, o.1, s.here ∙ ap (λ m. m ∷ from v (suc v.index)) o.2)

-- The value at a list's node is a list, at an object's an object, and at others neither.
pub list-of : (v : Value) (n : Node) → NodeStands v v.index n → is_list n ≡ true → value_view v ≡ trees.list (trees_at v (suc v.index))
list-of v n s e = ap first_value (list-here v n s e).2 ∙ ap trees.list (item-trees 0 (from v (suc v.index)))

pub object-of : (v : Value) (n : Node) → NodeStands v v.index n → is_object n ≡ true → value_view v ≡ trees.pairs (pairs_at v (suc v.index))
object-of v n s e = ap first_value (object-here v n s e).2 ∙ ap trees.pairs (member-trees 0 (from v (suc v.index)))

pub no-list : (v : Value) (n : RustNode) → NodeStands v v.index (seen v n) → is_list (seen v n) ≡ false → as_list (value_view v) ≡ None
no-list v n s e = ap as_list (value-stands v (seen v n) s) ∙ other-list n.kind _ n.more n.text.now _ e

pub no-pairs : (v : Value) (n : RustNode) → NodeStands v v.index (seen v n) → is_object (seen v n) ≡ false → as_pairs (value_view v) ≡ None
no-pairs v n s e = ap as_pairs (value-stands v (seen v n) s) ∙ other-pairs n.kind _ n.more n.text.now _ e

no_list-item : (t : Tree) (i : ℕ) → as_list t ≡ None → item i t ≡ None
no_list-item (trees.list ts) i e = cc
no_list-item _ i e = refl

no_object-member : (t : Tree) (name : List ℕ) → as_pairs t ≡ None → member name t ≡ None
no_object-member (trees.pairs ps) name e = cc
no_object-member _ name e = refl

neither-len : (t : Tree) → as_list t ≡ None → as_pairs t ≡ None → len t ≡ None
neither-len (trees.list ts) e f = cc
neither-len (trees.pairs ps) e f = cc
neither-len _ e f = refl

-- Only a list has items, only an object members, and no other value a number of them.
pub no-items : (v : Value) (n : RustNode) (i : ℕ) → NodeStands v v.index (seen v n) → is_list (seen v n) ≡ false → item i (value_view v) ≡ None
no-items v n i s e = no_list-item (value_view v) i (no-list v n s e)

pub no-members : (v : Value) (n : RustNode) (name : List ℕ) → NodeStands v v.index (seen v n) → is_object (seen v n) ≡ false →
    member name (value_view v) ≡ None
no-members v n name s e = no_object-member (value_view v) name (no-pairs v n s e)

pub no-len : (v : Value) (n : RustNode) → NodeStands v v.index (seen v n) → is_list (seen v n) ≡ false → is_object (seen v n) ≡ false →
    len (value_view v) ≡ None
no-len v n s e f = neither-len (value_view v) (no-list v n s e) (no-pairs v n s f)

-- ---- their nodes

no_list-nodes : (n : Node) (nodes : List Node) → is_list n ≡ false → list_items (n ∷ nodes) ≡ None
no_list-nodes (list text k) nodes e = cc
no_list-nodes _ nodes e = refl

no_object-nodes : (n : Node) (nodes : List Node) → is_object n ≡ false → object_members (n ∷ nodes) ≡ None
no_object-nodes (object text k) nodes e = cc
no_object-nodes _ nodes e = refl

pub items-are : (v : Value) (n : Node) → NodeStands v v.index n → is_list n ≡ true → list_items (nodes_from v) ≡ Some (items 0 (from v (suc v.index)))
items-are v n s e = ap list_items (list-here v n s e).2

pub members-are : (v : Value) (n : Node) → NodeStands v v.index n → is_object n ≡ true → object_members (nodes_from v) ≡ Some (members 0 (from v (suc v.index)))
members-are v n s e = ap object_members (object-here v n s e).2

pub no-item_nodes : (v : Value) (n : Node) → NodeStands v v.index n → is_list n ≡ false → list_items (nodes_from v) ≡ None
no-item_nodes v n s e = ap list_items s.here ∙ no_list-nodes n (from v (suc v.index)) e

pub no-member_nodes : (v : Value) (n : Node) → NodeStands v v.index n → is_object n ≡ false → object_members (nodes_from v) ≡ None
no-member_nodes v n s e = ap object_members s.here ∙ no_object-nodes n (from v (suc v.index)) e

-- ---- items

-- A value that is answered is the one at its nodes.
pub value-answered : (r : Option Value) (nodes : Option (List Node)) → option_map nodes_from r ≡ nodes → option_map value_view r ≡ option_map first_value nodes
value-answered None nodes e = ap (option_map first_value) e
value-answered (Some w) nodes e = ap (option_map first_value) e

items-first : (n : Node) (nodes : List Node) → is_closing_node n ≡ false → items 0 (n ∷ nodes) ≡ (n ∷ nodes) ∷ items 0 (drop (inner_len n) nodes)
items-first closing nodes e = cc
items-first (leaf text t) nodes e = refl
items-first (key name) nodes e = refl
items-first (list text k) nodes e = ap (λ l. (list text k ∷ nodes) ∷ l) (items-skip k nodes)
items-first (object text k) nodes e = ap (λ l. (object text k ∷ nodes) ∷ l) (items-skip k nodes)

-- Where no end stands, an item begins.
pub item-begins : (v w : Value) (at : ℕ) (n : Node) → NodeStands v at n → is_closing_node n ≡ false → w.document.now ≡ v.document.now → w.index ≡ at →
    Some (nodes_from w) ≡ slice_get (items 0 (from v at)) 0
item-begins v w at n s c same index =
    ap Some (nodes-at v w at same index ∙ s.here)
    ∙ sym (ap (λ l. slice_get (items 0 l) 0) s.here ∙ ap (λ l. slice_get l 0) (items-first n (from v (suc at)) c))

-- The items behind it begin behind its nodes.
pub item-stands : (v : Value) (at to : ℕ) (n : Node) → NodeStands v at n → is_closing_node n ≡ false → from v to ≡ drop (inner_len n) (from v (suc at)) →
    at < to → to ≤ many v → IsItem v at to
item-stands v at to n s c e further within = record {
  are = ap (items 0) s.here ∙ items-first n (from v (suc at)) c ∙ ap₂ (λ x l. x ∷ items 0 l) (sym s.here) (sym e);
  further = further;
  within = within;
}

-- The search for an item goes on behind another.
pub item-later : (v : Value) (at to left : ℕ) (found : Option (List Node)) → found ≡ slice_get (items 0 (from v at)) left → IsItem v at to → 0 < left →
    found ≡ slice_get (items 0 (from v to)) (left - 1)
item-later v at to zero found e i some = absurd (omega (arith, some))
item-later v at to (suc left) found e i some =
    let one : suc left - 1 ≡ left = omega arith in
    e ∙ ap (λ l. slice_get l (suc left)) i.are ∙ ap (slice_get (items 0 (from v to))) (sym one)

pub no-item-left : (v : Value) (at left : ℕ) (found : Option (List Node)) → found ≡ slice_get (items 0 (from v at)) left →
    items 0 (from v at) ≡ [] → found ≡ None
no-item-left v at left found e none = e ∙ ap (λ l. slice_get l left) none ∙ no-first left
  where
    no-first : (i : ℕ) → slice_get {X = List Node} [] i ≡ None
    no-first zero = refl
    no-first (suc i) = refl

-- The value of the item that is found.
pub item-value : (v : Value) (n : Node) (i : ℕ) (r : Option Value) → NodeStands v v.index n → is_list n ≡ true →
    option_map nodes_from r ≡ slice_get (items 0 (from v (suc v.index))) i → option_map value_view r ≡ item i (value_view v)
item-value v n i r s e found =
    value-answered r _ found ∙ sym (item_at-from i (items 0 (from v (suc v.index)))) ∙ sym (ap (item i) (list-of v n s e))

-- ---- behind a node's own nodes

pub past-there : (v : Value) (at k j : ℕ) → j ≡ k → from v (at + 1 + j) ≡ drop k (from v (suc at))
past-there v at k j e =
    let there : at + 1 + j ≡ suc at + k = omega (arith, e) in
    ap (from v) there ∙ sym (drop-drop k (suc at) (document_nodes v.document.now))

pub past-end : (v : Value) (at k : ℕ) → many v ≤ suc at + k → from v (many v) ≡ drop k (from v (suc at))
past-end v at k h =
    no-node v (many v) (omega arith)
    ∙ sym (drop-drop k (suc at) (document_nodes v.document.now) ∙ no-node v (suc at + k) h)

-- ---- members

members-first : (name : List ℕ) (n : Node) (nodes : List Node) →
    members 0 (key name ∷ n ∷ nodes) ≡ (name, n ∷ nodes) ∷ members 0 (drop (inner_len n) nodes)
members-first name n nodes = ap (λ l. (name, n ∷ nodes) ∷ l) (members-skip (inner_len n) nodes)

members-none : (n : Node) (nodes : List Node) → is_key n ≡ false → members 0 (n ∷ nodes) ≡ []
members-none closing nodes e = refl
members-none (leaf text t) nodes e = refl
members-none (key name) nodes e = cc
members-none (list text k) nodes e = refl
members-none (object text k) nodes e = refl

-- A key and a value behind it are a member.
pub member-stands : (v : Value) (at behind to : ℕ) (m n : Node) (name : List ℕ) → NodeStands v at m → m ≡ key name → behind ≡ suc at → NodeStands v behind n →
    from v to ≡ drop (inner_len n) (from v (suc behind)) → behind < to → to ≤ many v → MemberStands v at name to
member-stands v at behind to m n name first is b second left further within =
    let there : from v (suc at) ≡ n ∷ from v (suc behind) = ap (from v) (sym b) ∙ second.here in
    record {
      are = ap (members 0) first.here ∙ ap (λ k. members 0 (k ∷ from v (suc at))) is
          ∙ ap (λ l. members 0 (key name ∷ l)) there ∙ members-first name n (from v (suc behind))
          ∙ ap₂ (λ x l. (name, x) ∷ members 0 l) (sym there) (sym left);
      further = omega (arith, further, b);
      within = within;
    }

-- A member that is found counts, but for one behind it.
keep : (behind : Option (List Node)) (x : List Node) (before : Option (List Node)) → option_or (option_or behind (Some x)) before ≡ option_or behind (Some x)
keep None x before = refl
keep (Some u) x before = refl

named : (b : Bool) (behind : Option (List Node)) (x : List Node) (before : Option (List Node)) → true ≡ b →
    option_or (option_or behind (if b then Some x else None)) before ≡ option_or behind (Some x)
named true behind x before e = keep behind x before
named false behind x before e = cc

pub member-found : (v w : Value) (at behind to : ℕ) (name wanted : List ℕ) (last before : Option (List Node)) →
    last ≡ option_or (last_named wanted (members 0 (from v at))) before → MemberStands v at name to → true ≡ same_bytes name wanted →
    w.document.now ≡ v.document.now → w.index ≡ behind → behind ≡ suc at →
    last ≡ option_or (last_named wanted (members 0 (from v to))) (Some (nodes_from w))
member-found v w at behind to name wanted last before e m same doc index b =
    e ∙ ap (λ ms. option_or (last_named wanted ms) before) m.are
    ∙ named (same_bytes name wanted) (last_named wanted (members 0 (from v to))) (from v (suc at)) before same
    ∙ ap (λ x. option_or (last_named wanted (members 0 (from v to))) (Some x)) (sym (nodes-at v w (suc at) doc (index ∙ b)))

-- The value of the member that is found.
pub member-value : (v : Value) (n : Node) (name : List ℕ) (r : Option Value) → NodeStands v v.index n → is_object n ≡ true →
    option_map nodes_from r ≡ last_named name (members 0 (from v (suc v.index))) → option_map value_view r ≡ member name (value_view v)
member-value v n name r s e found =
    value-answered r _ found ∙ sym (last-from name (members 0 (from v (suc v.index)))) ∙ sym (ap (member name) (object-of v n s e))

-- ---- one after another

-- The trees of what is left.
pub tree-first : (v : Value) (at to : ℕ) → IsItem v at to → trees_at v at ≡ trees.tree (first_value (from v at)) (trees_at v to)
tree-first v at to i = ap trees_from i.are

pub pair-first : (v : Value) (at to : ℕ) (name : List ℕ) → MemberStands v at name to →
    pairs_at v at ≡ trees.pair name (first_value (from v (suc at))) (pairs_at v to)
pair-first v at to name m = ap pairs_from m.are

pub member-left : (v w : Value) (at to behind : ℕ) (name : List ℕ) → MemberStands v at name to → w.document.now ≡ v.document.now → w.index ≡ behind → behind ≡ suc at →
    members 0 (from v at) ≡ (name, nodes_from w) ∷ members 0 (from v to)
member-left v w at to behind name m same index b =
    m.are ∙ ap (λ x. (name, x) ∷ members 0 (from v to)) (sym (nodes-at v w (suc at) same (index ∙ b)))

-- The nodes that are left of a document from an index on.
pub nodes-left : (d e : Document) (at to : ℕ) → d ≡ e → at ≡ to → drop at (document_nodes d) ≡ drop to (document_nodes e)
nodes-left d e at to same index = ap₂ (λ (x : Document) k. drop k (document_nodes x)) same index

-- The trees of all items, and those of all members with their names.
pub item-values : (v : Value) → map first_value (items 0 (from v (suc v.index))) ≡ trees_list (trees_at v (suc v.index))
item-values v = sym (trees_list-from (items 0 (from v (suc v.index))))

pub member-values : (v : Value) → map member_value (members 0 (from v (suc v.index))) ≡ pairs_list (pairs_at v (suc v.index))
member-values v = sym (pairs_list-from (members 0 (from v (suc v.index))))
