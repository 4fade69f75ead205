-- Values as trees of tokens, and which tokens spell one (RFC 8259, sections 2 to 5; one comma may follow a nonempty list).
use Rattle.std.specs.Prelude.{◌≡◌, Bool, true, false}
use Rattle.facet_json_token.specs.Token.{Kind, Token, object_start, object_end, array_start, array_end, colon, comma, null, true_literal, false_literal, string, number}
use Rattle.facet_json_token.specs.Tokens.{Tokens, next}

-- a scalar's token, or the brackets of a container and what stands between them
mutual
  pub data Node : Type 0 where
    scalar : Token → Node
    array : (first last : Token) → Nodes → Node
    object : (first last : Token) → Members → Node

  pub data Nodes : Type 0 where
    no_nodes : Nodes
    item : Node → Nodes → Nodes

  -- each with the tokens of its key and its colon
  pub data Members : Type 0 where
    no_members : Members
    member : (key colon : Token) → Node → Members → Members

abbrev pub is_string : Kind → Bool
is_string (string start finish has_escapes) = true
is_string _ = false

-- a literal, a string or a number
abbrev pub is_scalar : Kind → Bool
is_scalar null = true
is_scalar true_literal = true
is_scalar false_literal = true
is_scalar (string start finish has_escapes) = true
is_scalar (number start finish hint) = true
is_scalar object_start = false
is_scalar object_end = false
is_scalar array_start = false
is_scalar array_end = false
is_scalar colon = false
is_scalar comma = false

-- The tokens begin with those of the node, and the last tokens follow them. After a bracket that opens a list and after a comma
-- of that list the same may stand: an item or the closing bracket.
mutual
  pub data Spells : Tokens → Node → Tokens → Type 0 where
    one_token : (t : Token) (rest : Tokens) → is_scalar t.kind ≡ true → Spells (next t rest) (scalar t) rest
    brackets : (first last : Token) (inner rest : Tokens) (nodes : Nodes) → first.kind ≡ array_start →
        SpellsItems inner nodes last rest → Spells (next first inner) (array first last nodes) rest
    braces : (first last : Token) (inner rest : Tokens) (members : Members) → first.kind ≡ object_start →
        SpellsMembers inner members last rest → Spells (next first inner) (object first last members) rest

  pub data SpellsItems : Tokens → Nodes → Token → Tokens → Type 0 where
    closed : (last : Token) (rest : Tokens) → last.kind ≡ array_end → SpellsItems (next last rest) no_nodes last rest
    item_and_comma : (ts others rest : Tokens) (node : Node) (nodes : Nodes) (separator last : Token) →
        Spells ts node (next separator others) → separator.kind ≡ comma → SpellsItems others nodes last rest →
        SpellsItems ts (item node nodes) last rest
    last_item : (ts rest : Tokens) (node : Node) (last : Token) → Spells ts node (next last rest) →
        last.kind ≡ array_end → SpellsItems ts (item node no_nodes) last rest

  pub data SpellsMembers : Tokens → Members → Token → Tokens → Type 0 where
    ended_members : (last : Token) (rest : Tokens) → last.kind ≡ object_end →
        SpellsMembers (next last rest) no_members last rest
    member_and_comma : (ts others rest : Tokens) (key mark : Token) (node : Node) (members : Members) (separator last : Token) →
        is_string key.kind ≡ true → mark.kind ≡ colon → Spells ts node (next separator others) →
        separator.kind ≡ comma → SpellsMembers others members last rest →
        SpellsMembers (next key (next mark ts)) (member key mark node members) last rest
    last_member : (ts rest : Tokens) (key mark : Token) (node : Node) (last : Token) → is_string key.kind ≡ true →
        mark.kind ≡ colon → Spells ts node (next last rest) → last.kind ≡ object_end →
        SpellsMembers (next key (next mark ts)) (member key mark node no_members) last rest
