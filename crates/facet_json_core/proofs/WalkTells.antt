-- The walk of a value tells its tree.
use Rattle.std.specs.Prelude.{ℕ, List}
use Rattle.std.proofs.Common.{◌≡◌, ℕ, true, false, List, [], ◌∷◌, Option, Some, None, refl, sym, ap, ◌∙◌, subst}
use Rattle.std.specs.Option.{option_map}
use Rattle.std.specs.Fmt.{decimal, signed_decimal}
use Rattle.facet_format.specs.Event.{Passed, array, object, bytes_of, sequence_end, struct_end, sequence_start, struct_start}
use Rattle.facet_format.specs.NumberValue.{Number}
use Rattle.facet_format.specs.NumberValue as numbers
use Rattle.facet_json_token.specs.Token.{Kind, Token}
use Rattle.facet_json_token.specs.Token as token
use Rattle.facet_json_grammar.specs.Node.{Node, scalar, Nodes, no_nodes, item, Members, no_members, member}
use Rattle.facet_json_grammar.specs.Node as node
use Rattle.facet_json_grammar.specs.Tree.{Tree, Trees, no_trees, tree, Pairs, no_pairs, pair}
use Rattle.facet_json_grammar.specs.Tree as trees
use Rattle.facet_json_grammar.specs.Meaning.{tree_of_number, meaning_of, meaning, tree_of, trees_of, pairs_of, text_in_tree, put_item, put_pair}
use Rattle.facet_json_grammar.specs.Walk.{text_by, scalar_by, scalar_of, name_of, event_at, scalar_event, key_event, walk, walk_items, walk_members}
use Rattle.facet_json_grammar.specs.Future.{Future, gives, events_before}
use Rattle.facet_json_grammar.proofs.WalkComes.{events_before-append}
use Rattle.facet_json_grammar.proofs.TreesOfParts.{list_meant, object_meant, item_meant, member_meant}
use Rattle.facet_json_core.specs.Told.{tree_of_scalar, Tells, a_scalar, a_list, an_object, TellsItems, no_item, one_item, TellsMembers, no_member, one_member}

-- ---- what the tokens of a buffer mean

-- However a text is held, its bytes are these.
text_by-bytes : (kind : Kind) (bytes : List ℕ) → bytes_of (text_by kind bytes) ≡ bytes
text_by-bytes (token.string start finish false) bytes = refl
text_by-bytes (token.string start finish true) bytes = refl
text_by-bytes _ bytes = refl

-- The event of a number tells its tree.
number-told : (kind : Kind) (n : Number) → tree_of_scalar (scalar_by kind (tree_of_number n)) ≡ Some (tree_of_number n)
number-told kind (numbers.u64 n) = refl
number-told kind (numbers.u128 n) = ap (λ b. Some (trees.text b)) (text_by-bytes kind (decimal n))
number-told kind (numbers.i64 n) = refl
number-told kind (numbers.i128 n) = ap (λ b. Some (trees.text b)) (text_by-bytes kind (signed_decimal n))
number-told kind (numbers.decimal digits) = refl

number_meant-told : (kind : Kind) (o : Option Number) (value : Tree) → option_map tree_of_number o ≡ Some value →
    tree_of_scalar (scalar_by kind value) ≡ Some value
number_meant-told kind None value e = cc
number_meant-told kind (Some n) value e =
    let same : tree_of_number n ≡ value = cc in
    subst (λ v. tree_of_scalar (scalar_by kind v) ≡ Some v) same (number-told kind n)

text_meant-told : (kind : Kind) (o : Option (List ℕ)) (value : Tree) → option_map trees.text o ≡ Some value →
    tree_of_scalar (scalar_by kind value) ≡ Some value
text_meant-told kind None value e = cc
text_meant-told kind (Some bytes) value e =
    let same : trees.text bytes ≡ value = cc in
    subst (λ v. tree_of_scalar (scalar_by kind v) ≡ Some v) same (ap (λ b. Some (trees.text b)) (text_by-bytes kind bytes))

-- The event of a token of a buffer tells what the token means.
meant-told : (buffer : List ℕ) (kind : Kind) (value : Tree) → meaning_of buffer kind ≡ Some value →
    tree_of_scalar (scalar_by kind value) ≡ Some value
meant-told buffer token.null value e =
    let same : trees.null ≡ value = cc in
    subst (λ v. tree_of_scalar (scalar_by token.null v) ≡ Some v) same refl
meant-told buffer token.true_literal value e =
    let same : trees.bool true ≡ value = cc in
    subst (λ v. tree_of_scalar (scalar_by token.true_literal v) ≡ Some v) same refl
meant-told buffer token.false_literal value e =
    let same : trees.bool false ≡ value = cc in
    subst (λ v. tree_of_scalar (scalar_by token.false_literal v) ≡ Some v) same refl
meant-told buffer (token.string start finish has_escapes) value e =
    text_meant-told (token.string start finish has_escapes) _ value e
meant-told buffer (token.number start finish hint) value e =
    number_meant-told (token.number start finish hint) _ value e
meant-told buffer _ value e = cc

module _ (buffer : List ℕ) where
  pub scalar-told : (t : Token) (value : Tree) → meaning buffer t ≡ Some value →
      tree_of_scalar (scalar_of t.kind (meaning buffer t)) ≡ Some value
  scalar-told t value e = ap (λ o. tree_of_scalar (scalar_of t.kind o)) e ∙ meant-told buffer t.kind value e

  -- The name in a key's event is the key's text.
  pub key-named : (key : Token) (name : List ℕ) → text_in_tree (meaning buffer key) ≡ Some name →
      bytes_of (name_of key.kind (text_in_tree (meaning buffer key))) ≡ name
  key-named key name e = ap (λ o. bytes_of (name_of key.kind o)) e ∙ text_by-bytes key.kind name

  -- ---- walks

  mutual
    unfolding walk tree_of

    -- The walk of a value tells its tree, whatever comes after.
    pub walk-tells : (n : Node) (value : Tree) (rest : Future) → tree_of buffer n ≡ Some value →
        Tells (events_before (walk buffer n) rest) value rest
    walk-tells (scalar t) value rest e = a_scalar (scalar_event buffer t) rest _ value refl (scalar-told t value e)
    walk-tells (node.array first last nodes) value rest e =
        let values = list_meant (trees_of buffer nodes) value e in
        let made : Some (trees.list values.0) ≡ Some value = sym (ap (option_map trees.list) values.1) ∙ e in
        let same : trees.list values.0 ≡ value = cc in
        let end = event_at sequence_end last in
        let start = event_at (sequence_start array) first in
        let inside = sym (events_before-append (walk_items buffer nodes) (end ∷ []) rest) in
        subst (λ v. Tells (events_before (walk buffer (node.array first last nodes)) rest) v rest) same
        (subst (λ f. Tells (gives start f) (trees.list values.0) rest) inside
        (a_list start _ rest array values.0 refl (items-tell nodes values.0 end rest refl values.1)))
    walk-tells (node.object first last members) value rest e =
        let values = object_meant (pairs_of buffer members) value e in
        let made : Some (trees.pairs values.0) ≡ Some value = sym (ap (option_map trees.pairs) values.1) ∙ e in
        let same : trees.pairs values.0 ≡ value = cc in
        let end = event_at struct_end last in
        let start = event_at (struct_start object) first in
        let inside = sym (events_before-append (walk_members buffer members) (end ∷ []) rest) in
        subst (λ v. Tells (events_before (walk buffer (node.object first last members)) rest) v rest) same
        (subst (λ f. Tells (gives start f) (trees.pairs values.0) rest) inside
        (an_object start _ rest object values.0 refl (members-tell members values.0 end rest refl values.1)))

    items-tell : (nodes : Nodes) (values : Trees) (last : Passed) (rest : Future) → last.event.kind ≡ sequence_end →
        trees_of buffer nodes ≡ Some values →
        TellsItems (events_before (walk_items buffer nodes) (gives last rest)) values rest
    items-tell no_nodes values last rest k e =
        let same : no_trees ≡ values = cc in
        subst (λ v. TellsItems (gives last rest) v rest) same (no_item last rest k)
    items-tell (item n nodes) values last rest k e =
        let has = item_meant buffer n nodes values e in
        let made : Some (tree has.0 has.1) ≡ Some values =
        sym (ap (λ o. put_item o (trees_of buffer nodes)) has.2 ∙ ap (put_item (Some has.0)) has.3) ∙ e in
        let same : tree has.0 has.1 ≡ values = cc in
        let others = events_before (walk_items buffer nodes) (gives last rest) in
        let parts = sym (events_before-append (walk buffer n) (walk_items buffer nodes) (gives last rest)) in
        subst (λ v. TellsItems (events_before (walk_items buffer (item n nodes)) (gives last rest)) v rest) same
        (subst (λ f. TellsItems f (tree has.0 has.1) rest) parts
        (one_item _ others rest has.0 has.1 (walk-tells n has.0 others has.2) (items-tell nodes has.1 last rest k has.3)))

    members-tell : (members : Members) (values : Pairs) (last : Passed) (rest : Future) → last.event.kind ≡ struct_end →
        pairs_of buffer members ≡ Some values →
        TellsMembers (events_before (walk_members buffer members) (gives last rest)) values rest
    members-tell no_members values last rest k e =
        let same : no_pairs ≡ values = cc in
        subst (λ v. TellsMembers (gives last rest) v rest) same (no_member last rest k)
    members-tell (member key mark n members) values last rest k e =
        let has = member_meant buffer key mark n members values e in
        let made : Some (pair has.0 has.1 has.2) ≡ Some values =
        sym (ap (λ o. put_pair o (tree_of buffer n) (pairs_of buffer members)) has.3 ∙ ap (λ o. put_pair (Some has.0) o (pairs_of buffer members)) has.4
        ∙ ap (put_pair (Some has.0) (Some has.1)) has.5) ∙ e in
        let same : pair has.0 has.1 has.2 ≡ values = cc in
        let others = events_before (walk_members buffer members) (gives last rest) in
        let parts = sym (events_before-append (walk buffer n) (walk_members buffer members) (gives last rest)) in
        let named = key-named key has.0 has.3 in
        subst (λ v. TellsMembers (events_before (walk_members buffer (member key mark n members)) (gives last rest)) v rest) same
        (subst (λ b. TellsMembers (events_before (walk_members buffer (member key mark n members)) (gives last rest)) (pair b has.1 has.2) rest) named
        (one_member (key_event buffer key mark) _ others rest _ has.1 has.2 refl
        (subst (λ f. Tells f has.1 others) parts (walk-tells n has.1 others has.4))
        (members-tell members has.2 last rest k has.5)))
