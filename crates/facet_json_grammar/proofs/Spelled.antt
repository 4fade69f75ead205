-- The value that tokens spell, and the document of an input, computed: slow, and plain. Rows are computed by it.
use Rattle.std.specs.Prelude.{ℕ, zero, suc, List, Option, Some, None}
use Rattle.std.specs.Option.{option_map, option_and_then}
use Rattle.facet_json_token.specs.Gap.{Mode, plain}
use Rattle.facet_json_token.specs.Token.{Kind, Token}
use Rattle.facet_json_token.specs.Token as token
use Rattle.facet_json_token.specs.Tokens.{Tokens, ended, refused, next}
use Rattle.facet_json_token.specs.TokenList.{tokens}
use Rattle.facet_json_grammar.specs.Node.{Node, scalar, array, object, Nodes, no_nodes, item, Members, no_members, member}
use Rattle.facet_json_grammar.specs.Tree.{Tree}
use Rattle.facet_json_grammar.specs.Meaning.{tree_of}
use Rattle.facet_json_grammar.specs.Order.{count}

-- a value at the start of the tokens, and what follows it
abbrev pub ValueReader : Type 0
ValueReader = Tokens → Option (Node × Tokens)

-- items up to a closing bracket, that bracket, and what follows it
abbrev pub ItemsReader : Type 0
ItemsReader = Tokens → Option (Nodes × Token × Tokens)

-- members up to a closing brace, that brace, and what follows it
abbrev pub MembersReader : Type 0
MembersReader = Tokens → Option (Members × Token × Tokens)

-- ---- one step of each

-- the value that begins with this token, which is of this kind
abbrev pub node_by : ItemsReader → MembersReader → Token → Tokens → Kind → Option (Node × Tokens)
node_by nodes members t rest token.array_start = option_map (λ r. (array t r.1 r.0, r.2)) (nodes rest)
node_by nodes members t rest token.object_start = option_map (λ r. (object t r.1 r.0, r.2)) (members rest)
node_by nodes members t rest token.null = Some (scalar t, rest)
node_by nodes members t rest token.true_literal = Some (scalar t, rest)
node_by nodes members t rest token.false_literal = Some (scalar t, rest)
node_by nodes members t rest (token.string start finish has_escapes) = Some (scalar t, rest)
node_by nodes members t rest (token.number start finish hint) = Some (scalar t, rest)
node_by nodes members t rest _ = None

abbrev pub node_from : ItemsReader → MembersReader → ValueReader
node_from nodes members ended = None
node_from nodes members (refused f) = None
node_from nodes members (next t rest) = node_by nodes members t rest t.kind

-- what follows an item: a comma and others, or the closing bracket
abbrev pub after_item_by : ItemsReader → Node → Token → Tokens → Kind → Option (Nodes × Token × Tokens)
after_item_by nodes node t rest token.comma = option_map (λ r. (item node r.0, r.1, r.2)) (nodes rest)
after_item_by nodes node t rest token.array_end = Some (item node no_nodes, t, rest)
after_item_by nodes node t rest _ = None

abbrev pub after_item_from : ItemsReader → Node → ItemsReader
after_item_from nodes node ended = None
after_item_from nodes node (refused f) = None
after_item_from nodes node (next t rest) = after_item_by nodes node t rest t.kind

-- the closing bracket, or an item and what follows it
abbrev pub nodes_by : ValueReader → ItemsReader → Token → Tokens → Kind → Option (Nodes × Token × Tokens)
nodes_by node nodes t rest token.array_end = Some (no_nodes, t, rest)
nodes_by node nodes t rest _ = option_and_then (λ r. after_item_from nodes r.0 r.1) (node (next t rest))

abbrev pub nodes_from : ValueReader → ItemsReader → ItemsReader
nodes_from node nodes ended = None
nodes_from node nodes (refused f) = None
nodes_from node nodes (next t rest) = nodes_by node nodes t rest t.kind

-- what follows a member: a comma and others, or the closing brace
abbrev pub after_member_by : MembersReader → Token → Token → Node → Token → Tokens → Kind →
    Option (Members × Token × Tokens)
after_member_by members key mark node t rest token.comma =
    option_map (λ r. (member key mark node r.0, r.1, r.2)) (members rest)
after_member_by members key mark node t rest token.object_end = Some (member key mark node no_members, t, rest)
after_member_by members key mark node t rest _ = None

abbrev pub after_member_from : MembersReader → Token → Token → Node → MembersReader
after_member_from members key mark node ended = None
after_member_from members key mark node (refused f) = None
after_member_from members key mark node (next t rest) = after_member_by members key mark node t rest t.kind

-- what follows a key: a colon, a value and what follows that
abbrev pub after_key_by : ValueReader → MembersReader → Token → Token → Tokens → Kind →
    Option (Members × Token × Tokens)
after_key_by node members key t rest token.colon =
    option_and_then (λ r. after_member_from members key t r.0 r.1) (node rest)
after_key_by node members key t rest _ = None

abbrev pub after_key_from : ValueReader → MembersReader → Token → MembersReader
after_key_from node members key ended = None
after_key_from node members key (refused f) = None
after_key_from node members key (next t rest) = after_key_by node members key t rest t.kind

-- the closing brace, or a key and what follows it
abbrev pub members_by : ValueReader → MembersReader → Token → Tokens → Kind → Option (Members × Token × Tokens)
members_by node members t rest token.object_end = Some (no_members, t, rest)
members_by node members t rest (token.string start finish has_escapes) = after_key_from node members t rest
members_by node members t rest _ = None

abbrev pub members_from : ValueReader → MembersReader → MembersReader
members_from node members ended = None
members_from node members (refused f) = None
members_from node members (next t rest) = members_by node members t rest t.kind

-- ---- all steps

-- where at most this many steps lie within one another
unfoldable mutual
  pub node_within : ℕ → ValueReader
  node_within zero ts = None
  node_within (suc n) ts = node_from (nodes_within n) (members_within n) ts

  pub nodes_within : ℕ → ItemsReader
  nodes_within zero ts = None
  nodes_within (suc n) ts = nodes_from (node_within n) (nodes_within n) ts

  pub members_within : ℕ → MembersReader
  members_within zero ts = None
  members_within (suc n) ts = members_from (node_within n) (members_within n) ts

-- the value that a prefix of the tokens spells, and what follows it
unfoldable pub spelled : Tokens → Option (Node × Tokens)
spelled ts = node_within (count ts) ts

-- the value that a prefix of the tokens spells, with its tree by the meaning of its tokens
unfoldable pub read_by : List ℕ → Tokens → Option (Node × Tree)
read_by buffer ts = option_and_then (λ r. option_map (λ value. (r.0, value)) (tree_of buffer r.0)) (spelled ts)

-- the document of the input, with its tree
abbrev pub document : List ℕ → Mode → Option (Node × Tree)
document buffer mode = read_by buffer (tokens buffer mode)

-- the value, where no token and no fault follows it
abbrev pub if_ended : Node → Tokens → Option Node
if_ended root ended = Some root
if_ended root (refused f) = None
if_ended root (next t rest) = None

-- the plain document that all of the text is, with its tree
unfoldable pub whole_document : List ℕ → Option (Node × Tree)
whole_document buffer =
    option_and_then (λ root. option_map (λ value. (root, value)) (tree_of buffer root))
    (option_and_then (λ r. if_ended r.0 r.1) (spelled (tokens buffer plain)))
