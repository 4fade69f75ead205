-- Nodes whose ranges hold the same bytes. Each law is the contract of a function of the module `laws`.
use Rattle.std.specs.Prelude.{◌≡◌, ℕ, List, Option}
use Rattle.facet_json_token.specs.Gap.{Mode}
use Rattle.facet_json_token.specs.Token.{Token}
use Rattle.facet_json_token.specs.Tokens.{Tokens}
use Rattle.facet_json_token.specs.TokenList.{tokens_from}
use Rattle.facet_json_grammar.specs.Document.{IsDocument}
use Rattle.facet_json_grammar.specs.Node.{Node, array, object, Nodes, item, Members, member, Spells}
use Rattle.facet_json_grammar.specs.RunLaws.{last_token_of}
use Rattle.facet_json_grammar.specs.Tree.{Tree}
use Rattle.facet_json_grammar.specs.UnreadLaws.{first_token}
use Rattle.facet_json_grammar.specs.SkipLaws.{bytes_between}
use Rattle.facet_json_core.specs.Meaning.Nodes.{SameText}

-- ---- nodes of a buffer

-- Tokens of the buffer spell the node, from some position on, and whether comments may stand between them or not.
pub record IsSpelledIn (buffer : List ℕ) (node : Node) : Type 0 where
  pub mode : Mode
  pub from : ℕ
  pub rest : Tokens
  pub spells : Spells (tokens_from buffer mode from) node rest

-- The first node is the second one, or stands within it as an item or as a member's value, at whatever depth.
mutual
  pub data IsNodeOf (inner : Node) : Node → Type 0 where
    itself : IsNodeOf inner inner
    in_list : (first last : Token) (nodes : Nodes) → IsAmongItems inner nodes → IsNodeOf inner (array first last nodes)
    in_object : (first last : Token) (members : Members) → IsAmongMembers inner members → IsNodeOf inner (object first last members)

  pub data IsAmongItems (inner : Node) : Nodes → Type 0 where
    in_first : (node : Node) (nodes : Nodes) → IsNodeOf inner node → IsAmongItems inner (item node nodes)
    in_others : (node : Node) (nodes : Nodes) → IsAmongItems inner nodes → IsAmongItems inner (item node nodes)

  pub data IsAmongMembers (inner : Node) : Members → Type 0 where
    in_value : (key mark : Token) (node : Node) (members : Members) → IsNodeOf inner node → IsAmongMembers inner (member key mark node members)
    in_later : (key mark : Token) (node : Node) (members : Members) → IsAmongMembers inner members →
        IsAmongMembers inner (member key mark node members)

-- the bytes of a node, from its first token to its last one
abbrev pub node_bytes : List ℕ → Node → List ℕ
node_bytes buffer node = bytes_between buffer (first_token node) (last_token_of node)

-- ---- what it means that they hold the same bytes

-- The nodes of a document are spelled in its input.
abbrev pub DocumentNodesAreSpelled : Type 0
DocumentNodesAreSpelled = (buffer : List ℕ) (mode : Mode) (root node : Node) (value : Tree) → IsDocument buffer mode root value →
    IsNodeOf node root → IsSpelledIn buffer node

-- Nodes whose ranges hold the same bytes are nodes of the same text: the same bytes are cut into the same tokens and spell the same node,
-- wherever they stand, whatever stands around them, and whether comments may stand between tokens or not.
abbrev pub SameBytesSameText : Type 0
SameBytesSameText = (these those : List ℕ) (n m : Node) → IsSpelledIn these n → IsSpelledIn those m → node_bytes these n ≡ node_bytes those m →
    SameText these those n m

-- They have the same reading.
abbrev pub ReadsBytesAlike : {V : Type 0} → (List ℕ → Node → Option V) → Type 0
ReadsBytesAlike reading = (these those : List ℕ) (n m : Node) → IsSpelledIn these n → IsSpelledIn those m →
    node_bytes these n ≡ node_bytes those m → reading these n ≡ reading those m
