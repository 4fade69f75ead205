-- Which values events tell (RFC 8259, section 3), as far as a `Tree` holds them, and where events break off within one.
use Rattle.std.specs.Prelude.{◌≡◌, Bool, true, false, Option, Some, None}
use Rattle.facet_format.specs.Event.{ContainerKind, EventKind, struct_start, struct_end, sequence_start, sequence_end, field_key, scalar, Scalar, Text, bytes_of, Passed}
use Rattle.facet_format.specs.Event as event
use Rattle.facet_json_token.specs.Tokens.{Tokens}
use Rattle.facet_json_grammar.specs.Tree.{Tree, list, pairs, Trees, no_trees, tree, Pairs, no_pairs, pair}
use Rattle.facet_json_grammar.specs.Tree as trees
use Rattle.facet_json_grammar.specs.Place.{Place}
use Rattle.facet_json_grammar.specs.Future.{Future, gives, stuck}

-- what a value that holds no others is in a tree, where a tree holds it
abbrev pub tree_of_scalar : Scalar → Option Tree
tree_of_scalar event.null = Some trees.null
tree_of_scalar event.unit = Some trees.null
tree_of_scalar (event.bool b) = Some (trees.bool b)
tree_of_scalar (event.i64 n) = Some (trees.i64 n)
tree_of_scalar (event.u64 n) = Some (trees.u64 n)
tree_of_scalar (event.decimal t) = Some (trees.decimal (bytes_of t))
tree_of_scalar (event.text t) = Some (trees.text (bytes_of t))
tree_of_scalar (event.char c) = None
tree_of_scalar (event.i128 n) = None
tree_of_scalar (event.u128 n) = None
tree_of_scalar (event.bytes b) = None

-- an event with which a container begins
abbrev pub opens : EventKind → Bool
opens (struct_start kind) = true
opens (sequence_start kind) = true
opens _ = false

-- an event with which a value begins
abbrev pub begins : EventKind → Bool
begins (scalar value) = true
begins kind = opens kind

-- an event that may stand before a member or after the last one
abbrev pub is_member : EventKind → Bool
is_member (field_key name) = true
is_member struct_end = true
is_member _ = false

-- The events that come first tell the value, and the last future comes after them.
mutual
  pub data Tells : Future → Tree → Future → Type 0 where
    a_scalar : (p : Passed) (rest : Future) (value : Scalar) (t : Tree) → p.event.kind ≡ scalar value →
        tree_of_scalar value ≡ Some t → Tells (gives p rest) t rest
    a_list : (p : Passed) (inner rest : Future) (kind : ContainerKind) (items : Trees) →
        p.event.kind ≡ sequence_start kind → TellsItems inner items rest → Tells (gives p inner) (list items) rest
    an_object : (p : Passed) (inner rest : Future) (kind : ContainerKind) (members : Pairs) →
        p.event.kind ≡ struct_start kind → TellsMembers inner members rest → Tells (gives p inner) (pairs members) rest

  -- items, and the end of the list
  pub data TellsItems : Future → Trees → Future → Type 0 where
    no_item : (last : Passed) (rest : Future) → last.event.kind ≡ sequence_end → TellsItems (gives last rest) no_trees rest
    one_item : (future others rest : Future) (t : Tree) (items : Trees) → Tells future t others →
        TellsItems others items rest → TellsItems future (tree t items) rest

  -- keys with their values, and the end of the object
  pub data TellsMembers : Future → Pairs → Future → Type 0 where
    no_member : (last : Passed) (rest : Future) → last.event.kind ≡ struct_end → TellsMembers (gives last rest) no_pairs rest
    one_member : (key : Passed) (inner others rest : Future) (name : Text) (t : Tree) (members : Pairs) →
        key.event.kind ≡ field_key name → Tells inner t others → TellsMembers others members rest →
        TellsMembers (gives key inner) (pair (bytes_of name) t members) rest

-- The events that come begin a value, and before its end nothing goes on at the place, before the tokens.
mutual
  pub data Breaks (place : Place) (rest : Tokens) : Future → Type 0 where
    at_once : Breaks place rest (stuck place rest)
    in_list : (p : Passed) (inner : Future) (kind : ContainerKind) → p.event.kind ≡ sequence_start kind →
        BreaksItems place rest inner → Breaks place rest (gives p inner)
    in_object : (p : Passed) (inner : Future) (kind : ContainerKind) → p.event.kind ≡ struct_start kind →
        BreaksMembers place rest inner → Breaks place rest (gives p inner)

  pub data BreaksItems (place : Place) (rest : Tokens) : Future → Type 0 where
    in_item : (future : Future) → Breaks place rest future → BreaksItems place rest future
    past_item : (future others : Future) (t : Tree) → Tells future t others → BreaksItems place rest others →
        BreaksItems place rest future

  pub data BreaksMembers (place : Place) (rest : Tokens) : Future → Type 0 where
    in_key : BreaksMembers place rest (stuck place rest)
    in_member : (key : Passed) (inner : Future) (name : Text) → key.event.kind ≡ field_key name →
        Breaks place rest inner → BreaksMembers place rest (gives key inner)
    past_member : (key : Passed) (inner others : Future) (name : Text) (t : Tree) → key.event.kind ≡ field_key name →
        Tells inner t others → BreaksMembers place rest others → BreaksMembers place rest (gives key inner)
