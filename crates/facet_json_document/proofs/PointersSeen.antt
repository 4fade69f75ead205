-- What a token of a pointer names in a value of a document.
use Rattle.std.proofs.Common.{◌≡◌, ℕ, zero, suc, ◌+◌, ◌<◌, ◌≤◌, ◌^◌, true, false, List, [], ◌∷◌, length, drop, length-drop, Option, Some, None, refl, sym, ap, ◌∙◌, subst, arith}
use Rattle.std.specs.Prelude.{IfSome, option_and_then, slice_get}
use Rattle.std.specs.Option.{option_map}
use Rattle.std.proofs.lemmas.List.{length-map}
use Rattle.facet_json_grammar.specs.Tree.{Tree}
use Rattle.facet_json_grammar.specs.Tree as trees
use Rattle.facet_json_tree.specs.Content.{as_list, as_pairs}
use Rattle.facet_json_tree.specs.Lookup.{item_at}
use Rattle.facet_json_tree.specs.Inner.PointerParts.{unescaped, before_slash}
use Rattle.facet_json_tree.specs.Pointer.{IsPointer, child, index, named}
use Rattle.facet_json_tree.proofs.PointerSteps.{first-left, only-whole}
use Rattle.facet_json_document.specs.Nodes.{Node, leaf, key, list, object, closing, is_list, is_object, items, members, last_named, child_nodes, named_nodes, nodes_from, first_value, value_view}
use Rattle.facet_json_document.specs.Inner.Looking.{from, many, seen, trees_from, NodeStands}
use Rattle.facet_json_document.specs.declared.document.node.Node.{Node as RustNode}
use Rattle.facet_json_document.specs.declared.document.value.Value.{Value}
use Rattle.facet_json_document.proofs.NodeTrees.{item_at-from, last-from}
use Rattle.facet_json_document.proofs.NodesSeen.{list-here, object-here, list-of, object-of, no-list, no-pairs, value-answered}

-- ---- one token

neither-child : (name : List ℕ) (t : Tree) → as_list t ≡ None → as_pairs t ≡ None → child name t ≡ None
neither-child name (trees.list ts) e f = cc
neither-child name (trees.pairs ps) e f = cc
neither-child name _ e f = refl

-- Nothing has a name in a value that is neither a list nor an object.
pub no-child : (v : Value) (n : RustNode) (name : List ℕ) → NodeStands v v.index (seen v n) → is_object (seen v n) ≡ false →
    is_list (seen v n) ≡ false → child name (value_view v) ≡ None
no-child v n name s e f = neither-child name (value_view v) (no-list v n s f) (no-pairs v n s e)

no_nodes-child : (name : List ℕ) (n : Node) (nodes : List Node) → is_object n ≡ false → is_list n ≡ false → child_nodes name (n ∷ nodes) ≡ None
no_nodes-child name (object text k) nodes e f = cc
no_nodes-child name (list text k) nodes e f = cc
no_nodes-child name _ nodes e f = refl

-- What a name names in an object, in a list and elsewhere: its nodes,
pub child-member : (v : Value) (n : Node) (name : List ℕ) → NodeStands v v.index n → is_object n ≡ true →
    child_nodes name (nodes_from v) ≡ last_named name (members 0 (from v (suc v.index)))
child-member v n name s e = ap (child_nodes name) (object-here v n s e).2

pub child-item : (v : Value) (n : Node) (name : List ℕ) → NodeStands v v.index n → is_list n ≡ true →
    child_nodes name (nodes_from v) ≡ option_and_then (slice_get (items 0 (from v (suc v.index)))) (index name)
child-item v n name s e = ap (child_nodes name) (list-here v n s e).2

pub no-child_nodes : (v : Value) (n : Node) (name : List ℕ) → NodeStands v v.index n → is_object n ≡ false → is_list n ≡ false →
    child_nodes name (nodes_from v) ≡ None
no-child_nodes v n name s e f = ap (child_nodes name) s.here ∙ no_nodes-child name n _ e f

-- and its value.
pub child-member_value : (v : Value) (n : Node) (name : List ℕ) (r : Option Value) → NodeStands v v.index n → is_object n ≡ true →
    option_map nodes_from r ≡ last_named name (members 0 (from v (suc v.index))) → option_map value_view r ≡ child name (value_view v)
child-member_value v n name r s e found =
    value-answered r _ found ∙ sym (last-from name (members 0 (from v (suc v.index)))) ∙ sym (ap (child name) (object-of v n s e))

pub child-item_value : (v : Value) (n : Node) (name : List ℕ) (r : Option Value) → NodeStands v v.index n → is_list n ≡ true →
    option_map nodes_from r ≡ option_and_then (slice_get (items 0 (from v (suc v.index)))) (index name) → option_map value_view r ≡ child name (value_view v)
child-item_value v n name r s e found =
    value-answered r _ found ∙ by (index name) ∙ sym (ap (child name) (list-of v n s e))
  where
    xs : List (List Node)
    xs = items 0 (from v (suc v.index))

    by : (o : Option ℕ) → option_map first_value (option_and_then (slice_get xs) o) ≡ option_and_then (λ i. item_at i (trees_from xs)) o
    by None = refl
    by (Some i) = sym (item_at-from i xs)

-- ---- one token after another

-- The value in which the rest of a pointer names what the whole pointer names.
pub record Along (rest : List ℕ) (found : Value) (names : List (List ℕ)) (whole : Value) : Type 0 where
  pub others : List (List ℕ)
  pub pointer : IsPointer rest others
  pub same : named names (value_view whole) ≡ named others (value_view found)
  pub nodes : named_nodes names (nodes_from whole) ≡ named_nodes others (nodes_from found)

pub along-all : (rest : List ℕ) (found : Value) (names : List (List ℕ)) (whole : Value) → Along rest found names whole → rest ≡ [] →
    (Some (nodes_from found) ≡ named_nodes names (nodes_from whole)) × (Some (value_view found) ≡ named names (value_view whole))
along-all rest found names whole at none =
    let last = only-whole rest at.others at.pointer none in
    (sym (at.nodes ∙ ap (λ ns. named_nodes ns (nodes_from found)) last), sym (at.same ∙ ap (λ ns. named ns (value_view found)) last))

-- A token that names nothing, and one that names a value.
pub along-none : (pointer token : List ℕ) (start : ℕ) (found : Value) (names : List (List ℕ)) (whole : Value) → start < length pointer →
    token ≡ before_slash (drop (start + 1) pointer) → child_nodes (unescaped token) (nodes_from found) ≡ None →
    child (unescaped token) (value_view found) ≡ None → Along (drop start pointer) found names whole →
    (None ≡ named_nodes names (nodes_from whole)) × (None ≡ named names (value_view whole))
along-none pointer token start found names whole h is no_nodes no_value at =
    let first = first-left pointer start at.others h at.pointer in
    let are = first.are ∙ ap (λ t. unescaped t ∷ first.others) (sym is) in (
      sym (at.nodes ∙ ap (λ ns. named_nodes ns (nodes_from found)) are ∙ ap (option_and_then (named_nodes first.others)) no_nodes),
      sym (at.same ∙ ap (λ ns. named ns (value_view found)) are ∙ ap (option_and_then (named first.others)) no_value),
    )

pub along-some : (pointer token : List ℕ) (start : ℕ) (found next : Value) (names : List (List ℕ)) (whole : Value) → start < length pointer →
    token ≡ before_slash (drop (start + 1) pointer) → child_nodes (unescaped token) (nodes_from found) ≡ Some (nodes_from next) →
    child (unescaped token) (value_view found) ≡ Some (value_view next) → Along (drop start pointer) found names whole →
    Along (drop (start + (1 + length token)) pointer) next names whole
along-some pointer token start found next names whole h is next_nodes next_value at =
    let first = first-left pointer start at.others h at.pointer in
    let are = first.are ∙ ap (λ t. unescaped t ∷ first.others) (sym is) in
    record {
      others = first.others;
      pointer = subst (λ (t : List ℕ). IsPointer (drop (start + (1 + length t)) pointer) first.others) (sym is) first.pointer;
      same = at.same ∙ ap (λ ns. named ns (value_view found)) are ∙ ap (option_and_then (named first.others)) next_value;
      nodes = at.nodes ∙ ap (λ ns. named_nodes ns (nodes_from found)) are ∙ ap (option_and_then (named_nodes first.others)) next_nodes;
    }

-- ---- no more items than nodes

items-few : (n : ℕ) (nodes : List Node) → length (items n nodes) ≤ length nodes
items-few zero [] = omega arith
items-few (suc n) [] = omega arith
items-few (suc n) (x ∷ nodes) = omega (arith, items-few n nodes)
items-few zero (closing ∷ nodes) = omega arith
items-few zero (leaf text t ∷ nodes) = omega (arith, items-few 0 nodes)
items-few zero (key name ∷ nodes) = omega (arith, items-few 0 nodes)
items-few zero (list text k ∷ nodes) = omega (arith, items-few k nodes)
items-few zero (object text k ∷ nodes) = omega (arith, items-few k nodes)

from-few : (v : Value) (at : ℕ) → length (items 0 (from v at)) ≤ many v
from-few v at = omega (arith, items-few 0 (from v at), length-drop at (from v 0), length-map v.document.now.nodes.items (seen v))

past-items : (xs : List (List Node)) (i : ℕ) → length xs ≤ i → slice_get xs i ≡ None
past-items [] zero h = refl
past-items [] (suc i) h = refl
past-items (x ∷ xs) zero h = absurd (omega arith)
past-items (x ∷ xs) (suc i) h = past-items xs i (omega (arith, h))

-- No item has an index as large as the number of nodes,
pub item-past : (v : Value) (at i : ℕ) → many v ≤ i → slice_get (items 0 (from v at)) i ≡ None
item-past v at i h = past-items (items 0 (from v at)) i (omega (arith, h, from-few v at))

-- and none has one past 64 bits.
pub item-large : (v : Value) (at : ℕ) (o : Option ℕ) → many v ≤ 2 ^ 64 → IfSome o (λ i. 2 ^ 64 ≤ i) →
    option_and_then (slice_get (items 0 (from v at))) o ≡ None
item-large v at None few large = refl
item-large v at (Some i) few large = item-past v at i (omega (arith, few, large))
