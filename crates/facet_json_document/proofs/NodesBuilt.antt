-- The nodes of a value's events are the value's.
use Rattle.std.proofs.Common.{◌≡◌, ℕ, ◌+◌, ◌-◌, List, [], ◌∷◌, ◌++◌, length, set, Option, Some, refl, sym, ap, ap₂, ◌∙◌, arith, append_assoc, length-append}
use Rattle.std.proofs.lemmas.List.{append-nil, drop_at}
use Rattle.std.proofs.Math.Seq.{set-append_seam}
use Rattle.std.specs.Prelude.{slice_range}
use Rattle.std.specs.Option.{unwrap_or, option_map}
use Rattle.facet_format.specs.Event.{EventKind, Passed, field_key, scalar, sequence_end, sequence_start, struct_end, struct_start}
use Rattle.facet_format.specs.Span.{Span, stop}
use Rattle.facet_json_core.proofs.WalkTells.{scalar-told, key-named}
use Rattle.facet_json_grammar.specs.Meaning.{meaning, text_in_tree, tree_of, trees_of, pairs_of, put_item, put_pair}
use Rattle.facet_json_grammar.specs.Node as grammar
use Rattle.facet_json_grammar.specs.Tree.{Tree, Trees, no_trees, tree, Pairs, no_pairs, pair}
use Rattle.facet_json_grammar.specs.Tree as trees
use Rattle.facet_json_grammar.specs.Walk.{event_at, walk, walk_items, walk_members}
use Rattle.facet_json_grammar.proofs.TreesOfParts.{list_meant, object_meant, item_meant, member_meant}
use Rattle.facet_json_document.specs.Nodes.{Node, leaf, key, list, object as object_node, closing, nothing, text_at, items, members, as_nodes, items_as_nodes, members_as_nodes, first_value}
use Rattle.facet_json_document.specs.Inner.Building.{NodesSoFar, added, all_added, also, begun, closed_in, ended}
use Rattle.facet_json_document.specs.declared.document.built.Opened.{Opened}
use Rattle.facet_json_document.specs.Inner.Looking.{trees_from, pairs_from}
use Rattle.facet_json_document.proofs.NodeTrees.{item-trees, items-skip, member-trees, members-skip}

-- ---- nodes after nodes

pub added-append : (a b : List Passed) (s : NodesSoFar) → all_added (a ++ b) s ≡ all_added b (all_added a s)
added-append [] b s = refl
added-append (p ∷ a) b s = added-append a b (added p.event.kind p.event.span s)

closed-input : (container : List ℕ → ℕ → Node) (end : ℕ) (input : List ℕ) (nodes : List Node) (unclosed : List Opened) →
    (closed_in container end input nodes unclosed).input ≡ input
closed-input container end input nodes [] = refl
closed-input container end input nodes (o ∷ unclosed) = refl

-- They are nodes of the same input.
pub added-input : (kind : EventKind) (span : Span) (s : NodesSoFar) → (added kind span s).input ≡ s.input
added-input (scalar value) span s = refl
added-input (field_key name) span s = refl
added-input (sequence_start kind) span s = refl
added-input (struct_start kind) span s = refl
added-input sequence_end span s = closed-input list (stop span) s.input s.nodes s.unclosed
added-input struct_end span s = closed-input object_node (stop span) s.input s.nodes s.unclosed

-- These nodes are added, and the same containers are open.
abbrev after : NodesSoFar → List Node → NodesSoFar
after s own = record { input = s.input; nodes = s.nodes ++ own; unclosed = s.unclosed }

after-none : (s : NodesSoFar) → s ≡ after s []
after-none s = ap (λ l. record { input = s.input; nodes = l; unclosed = s.unclosed }) (sym (append-nil s.nodes))

after-more : (s : NodesSoFar) (a b : List Node) → after (after s a) b ≡ after s (a ++ b)
after-more s a b = ap (λ l. record { input = s.input; nodes = l; unclosed = s.unclosed }) (append_assoc s.nodes a b)

-- A container that was begun ends, and its node tells its text and how many are its own.
container-ends : (container : List ℕ → ℕ → Node) (offset end : ℕ) (s : NodesSoFar) (n : Node) (own : List Node) →
    ended container end (after (begun offset n s) own)
    ≡ after s (container (slice_range s.input offset end) (length own + 1) ∷ own ++ closing ∷ [])
container-ends container offset end s n own =
    let text = slice_range s.input offset end in
    let whole : (s.nodes ++ n ∷ []) ++ own ≡ s.nodes ++ n ∷ own = append_assoc s.nodes (n ∷ []) own in
    let many : length (s.nodes ++ n ∷ own) - length s.nodes ≡ length own + 1 = omega (arith, length-append s.nodes (n ∷ own)) in
    let put : set (s.nodes ++ n ∷ own) (length s.nodes) (container text (length own + 1)) ≡ s.nodes ++ container text (length own + 1) ∷ own =
    set-append_seam s.nodes n own (container text (length own + 1)) in
    ap (λ (l : List Node). record { input = s.input; nodes = set l (length s.nodes) (container text (length l - length s.nodes)) ++ closing ∷ []; unclosed = s.unclosed }) whole
    ∙ ap (λ k. record { input = s.input; nodes = set (s.nodes ++ n ∷ own) (length s.nodes) (container text k) ++ closing ∷ []; unclosed = s.unclosed }) many
    ∙ ap (λ l. record { input = s.input; nodes = l ++ closing ∷ []; unclosed = s.unclosed }) put
    ∙ ap (λ l. record { input = s.input; nodes = l; unclosed = s.unclosed }) (append_assoc s.nodes (container text (length own + 1) ∷ own) (closing ∷ []))

-- ---- what is built of a walk

mutual
  unfolding walk as_nodes tree_of

  pub builds : (node : grammar.Node) (s : NodesSoFar) (value : Tree) → tree_of s.input node ≡ Some value →
      all_added (walk s.input node) s ≡ after s (as_nodes s.input node)
  builds (grammar.scalar t) s value e =
      ap (λ o. also (leaf (text_at s.input t.span) (unwrap_or o nothing)) s) (scalar-told s.input t value e ∙ sym e)
  builds (grammar.array first last held) s value e =
      let begins = begun first.span.offset (list (text_at s.input first.span) 0) s in
      added-append (walk_items s.input held) (event_at sequence_end last ∷ []) begins
      ∙ ap (ended list (stop last.span)) (items-build held begins _ (list_meant (trees_of s.input held) value e).1)
      ∙ container-ends list first.span.offset (stop last.span) s (list (text_at s.input first.span) 0) (items_as_nodes s.input held)
  builds (grammar.object first last held) s value e =
      let begins = begun first.span.offset (object_node (text_at s.input first.span) 0) s in
      added-append (walk_members s.input held) (event_at struct_end last ∷ []) begins
      ∙ ap (ended object_node (stop last.span)) (members-build held begins _ (object_meant (pairs_of s.input held) value e).1)
      ∙ container-ends object_node first.span.offset (stop last.span) s (object_node (text_at s.input first.span) 0) (members_as_nodes s.input held)

  items-build : (held : grammar.Nodes) (s : NodesSoFar) (values : Trees) → trees_of s.input held ≡ Some values →
      all_added (walk_items s.input held) s ≡ after s (items_as_nodes s.input held)
  items-build grammar.no_nodes s values e = after-none s
  items-build (grammar.item node others) s values e =
      let has = item_meant s.input node others values e in
      added-append (walk s.input node) (walk_items s.input others) s
      ∙ ap (all_added (walk_items s.input others)) (builds node s has.0 has.2)
      ∙ items-build others (after s (as_nodes s.input node)) has.1 has.3
      ∙ after-more s (as_nodes s.input node) (items_as_nodes s.input others)

  members-build : (held : grammar.Members) (s : NodesSoFar) (values : Pairs) → pairs_of s.input held ≡ Some values →
      all_added (walk_members s.input held) s ≡ after s (members_as_nodes s.input held)
  members-build grammar.no_members s values e = after-none s
  members-build (grammar.member name mark node others) s values e =
      let has = member_meant s.input name mark node others values e in
      let named = key (unwrap_or (text_in_tree (meaning s.input name)) []) in
      let text = key-named s.input name has.0 has.3 ∙ sym (ap (λ o. unwrap_or o []) has.3) in
      ap (λ n. all_added (walk s.input node ++ walk_members s.input others) (also (key n) s)) text
      ∙ added-append (walk s.input node) (walk_members s.input others) (also named s)
      ∙ ap (all_added (walk_members s.input others)) (builds node (also named s) has.1 has.4)
      ∙ members-build others (after (also named s) (as_nodes s.input node)) has.2 has.5
      ∙ after-more (also named s) (as_nodes s.input node) (members_as_nodes s.input others)
      ∙ after-more s (named ∷ []) (as_nodes s.input node ++ members_as_nodes s.input others)

-- ---- what the nodes tell

items-behind : (own left : List Node) → items (length own) (own ++ left) ≡ items 0 left
items-behind own left = items-skip (length own) (own ++ left) ∙ ap (items 0) (drop_at own left (length own) refl)

members-behind : (own left : List Node) → members (length own) (own ++ left) ≡ members 0 left
members-behind own left = members-skip (length own) (own ++ left) ∙ ap (members 0) (drop_at own left (length own) refl)

-- The nodes of what a container holds, and that of its end.
held-len : (own : List Node) → length own + 1 ≡ length (own ++ closing ∷ [])
held-len own = omega (arith, length-append own (closing ∷ []))

items-held : (own left : List Node) → items (length own + 1) ((own ++ closing ∷ []) ++ left) ≡ items 0 left
items-held own left = ap (λ n. items n ((own ++ closing ∷ []) ++ left)) (held-len own) ∙ items-behind (own ++ closing ∷ []) left

members-held : (own left : List Node) → members (length own + 1) ((own ++ closing ∷ []) ++ left) ≡ members 0 left
members-held own left = ap (λ n. members n ((own ++ closing ∷ []) ++ left)) (held-len own) ∙ members-behind (own ++ closing ∷ []) left

module _ (input : List ℕ) where
  -- Behind a value's own nodes the other items are left, and behind a member's the other members.
  items-own : (node : grammar.Node) (left : List Node) → items 0 (as_nodes input node ++ left) ≡ (as_nodes input node ++ left) ∷ items 0 left
  unfolding as_nodes
  items-own (grammar.scalar t) left = refl
  items-own (grammar.array first last held) left = ap (λ l. (as_nodes input (grammar.array first last held) ++ left) ∷ l) (items-held (items_as_nodes input held) left)
  items-own (grammar.object first last held) left = ap (λ l. (as_nodes input (grammar.object first last held) ++ left) ∷ l) (items-held (members_as_nodes input held) left)

  members-own : (name : List ℕ) (node : grammar.Node) (left : List Node) →
      members 0 (key name ∷ as_nodes input node ++ left) ≡ (name, as_nodes input node ++ left) ∷ members 0 left
  unfolding as_nodes
  members-own name (grammar.scalar t) left = refl
  members-own name (grammar.array first last held) left = ap (λ l. (name, as_nodes input (grammar.array first last held) ++ left) ∷ l) (members-held (items_as_nodes input held) left)
  members-own name (grammar.object first last held) left = ap (λ l. (name, as_nodes input (grammar.object first last held) ++ left) ∷ l) (members-held (members_as_nodes input held) left)

meant : {X : Type 0} (whole : X → Tree) (o : Option X) (x : X) (value : Tree) → o ≡ Some x → option_map whole o ≡ Some value → whole x ≡ value
meant whole o x value is e = let made : Some (whole x) ≡ Some value = sym (ap (option_map whole) is) ∙ e in cc

module _ (input : List ℕ) where
  mutual
    unfolding as_nodes tree_of

    -- At a value's nodes the value begins.
    pub begins : (node : grammar.Node) (value : Tree) → tree_of input node ≡ Some value → (more : List Node) → first_value (as_nodes input node ++ more) ≡ value
    begins (grammar.scalar t) value e more = ap (λ o. unwrap_or o nothing) e
    begins (grammar.array first last held) value e more =
        let values = list_meant (trees_of input held) value e in
        ap trees.list (item-trees 0 _ ∙ ap (λ l. trees_from (items 0 l)) (append_assoc (items_as_nodes input held) (closing ∷ []) more)
        ∙ items-begin held values.0 values.1 more)
        ∙ meant trees.list (trees_of input held) values.0 value values.1 e
    begins (grammar.object first last held) value e more =
        let values = object_meant (pairs_of input held) value e in
        ap trees.pairs (member-trees 0 _ ∙ ap (λ l. pairs_from (members 0 l)) (append_assoc (members_as_nodes input held) (closing ∷ []) more)
        ∙ members-begin held values.0 values.1 more)
        ∙ meant trees.pairs (pairs_of input held) values.0 value values.1 e

    items-begin : (held : grammar.Nodes) (values : Trees) → trees_of input held ≡ Some values → (more : List Node) →
        trees_from (items 0 (items_as_nodes input held ++ closing ∷ more)) ≡ values
    items-begin grammar.no_nodes values e more = cc
    items-begin (grammar.item node others) values e more =
        let has = item_meant input node others values e in
        let made : Some (tree has.0 has.1) ≡ Some values =
        sym (ap (λ o. put_item o (trees_of input others)) has.2 ∙ ap (put_item (Some has.0)) has.3) ∙ e in
        let same : tree has.0 has.1 ≡ values = cc in
        let left = items_as_nodes input others ++ closing ∷ more in
        ap trees_from (ap (items 0) (append_assoc (as_nodes input node) (items_as_nodes input others) (closing ∷ more)) ∙ items-own input node left)
        ∙ ap₂ tree (begins node has.0 has.2 left) (items-begin others has.1 has.3 more) ∙ same

    members-begin : (held : grammar.Members) (values : Pairs) → pairs_of input held ≡ Some values → (more : List Node) →
        pairs_from (members 0 (members_as_nodes input held ++ closing ∷ more)) ≡ values
    members-begin grammar.no_members values e more = cc
    members-begin (grammar.member name mark node others) values e more =
        let has = member_meant input name mark node others values e in
        let made : Some (pair has.0 has.1 has.2) ≡ Some values =
        sym (ap (λ o. put_pair o (tree_of input node) (pairs_of input others)) has.3 ∙ ap (λ o. put_pair (Some has.0) o (pairs_of input others)) has.4
        ∙ ap (put_pair (Some has.0) (Some has.1)) has.5) ∙ e in
        let same : pair has.0 has.1 has.2 ≡ values = cc in
        let left = members_as_nodes input others ++ closing ∷ more in
        let text = ap (λ o. unwrap_or o []) has.3 in
        let named = unwrap_or (text_in_tree (meaning input name)) [] in
        ap pairs_from (ap (λ l. members 0 (key named ∷ l)) (append_assoc (as_nodes input node) (members_as_nodes input others) (closing ∷ more))
        ∙ members-own input named node left)
        ∙ ap (λ n. pair n (first_value (as_nodes input node ++ left)) (pairs_from (members 0 left))) text
        ∙ ap₂ (pair has.0) (begins node has.1 has.4 left) (members-begin others has.2 has.5 more) ∙ same
