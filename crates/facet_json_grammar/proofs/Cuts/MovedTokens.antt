-- Tokens of a text that stands within a longer one are the same, moved by the offset where it begins.
use Rattle.std.proofs.Common.{◌≡◌, ℕ, ◌+◌, List, refl, ap, ap₂, ◌∙◌, arith}
use Rattle.std.specs.Option.{option_map}
use Rattle.facet_format.specs.Span.{stop, span_at}
use Rattle.facet_json_token.specs.Token.{Kind, Token, string, number}
use Rattle.facet_json_token.specs.Tokens.{Tokens, ended, refused, next}
use Rattle.facet_json_grammar.specs.Meaning.{tree_of, trees_of, pairs_of, meaning, text_in_tree, put_item, put_pair}
use Rattle.facet_json_grammar.specs.Node.{Node, scalar, array, object, Nodes, no_nodes, item, Members, no_members, member, is_scalar, is_string, Spells, one_token, brackets, braces, SpellsItems, closed, item_and_comma, last_item, SpellsMembers, ended_members, member_and_comma, last_member}
use Rattle.facet_json_grammar.specs.Tree.{list, pairs}

-- ---- moved

-- the same kind, n bytes later
abbrev pub moved_kind : ℕ → Kind → Kind
moved_kind n (string start finish has_escapes) = string (n + start) (n + finish) has_escapes
moved_kind n (number start finish hint) = number (n + start) (n + finish) hint
moved_kind n kind = kind

-- the same token, n bytes later
abbrev pub moved : ℕ → Token → Token
moved n t = record { kind = moved_kind n t.kind; span = span_at (n + t.span.offset) t.span.len }

-- the same tokens, n bytes later, and others where they ended
abbrev pub onto : ℕ → Tokens → Tokens → Tokens
onto n others ended = others
onto n others (refused f) = refused f
onto n others (next t ts) = next (moved n t) (onto n others ts)

unfoldable mutual
  -- the same node, n bytes later
  pub moved_node : ℕ → Node → Node
  moved_node n (scalar t) = scalar (moved n t)
  moved_node n (array first last nodes) = array (moved n first) (moved n last) (moved_nodes n nodes)
  moved_node n (object first last members) = object (moved n first) (moved n last) (moved_members n members)

  pub moved_nodes : ℕ → Nodes → Nodes
  moved_nodes n no_nodes = no_nodes
  moved_nodes n (item node nodes) = item (moved_node n node) (moved_nodes n nodes)

  pub moved_members : ℕ → Members → Members
  moved_members n no_members = no_members
  moved_members n (member key mark node members) =
      member (moved n key) (moved n mark) (moved_node n node) (moved_members n members)

-- A token ends as much later.
pub moved-stop : (n : ℕ) (t : Token) → stop (moved n t).span ≡ n + stop t.span
moved-stop n t = omega arith

-- ---- they spell the same node, moved

-- A scalar's token moved is one.
pub moved-is_scalar : (n : ℕ) (kind : Kind) → is_scalar (moved_kind n kind) ≡ is_scalar kind
moved-is_scalar n (string start finish has_escapes) = refl
moved-is_scalar n (number start finish hint) = refl
moved-is_scalar n kind = refl

-- A string's token moved is one.
pub moved-is_string : (n : ℕ) (kind : Kind) → is_string (moved_kind n kind) ≡ is_string kind
moved-is_string n (string start finish has_escapes) = refl
moved-is_string n (number start finish hint) = refl
moved-is_string n kind = refl

mutual
  unfolding moved_node

  pub spells-moved : (n : ℕ) (others : Tokens) (ts : Tokens) (node : Node) (rest : Tokens) → Spells ts node rest →
      Spells (onto n others ts) (moved_node n node) (onto n others rest)
  spells-moved n others _ _ _ (one_token t rest k) = one_token (moved n t) _ (moved-is_scalar n t.kind ∙ k)
  spells-moved n others _ _ _ (brackets first last inner rest nodes k s) =
      brackets (moved n first) (moved n last) _ _ _ (ap (moved_kind n) k) (items-moved n others inner nodes last rest s)
  spells-moved n others _ _ _ (braces first last inner rest members k s) =
      braces (moved n first) (moved n last) _ _ _ (ap (moved_kind n) k) (members-moved n others inner members last rest s)

  items-moved : (n : ℕ) (others : Tokens) (ts : Tokens) (nodes : Nodes) (last : Token) (rest : Tokens) →
      SpellsItems ts nodes last rest →
      SpellsItems (onto n others ts) (moved_nodes n nodes) (moved n last) (onto n others rest)
  items-moved n others _ _ _ _ (closed last rest k) = closed (moved n last) _ (ap (moved_kind n) k)
  items-moved n others _ _ _ _ (item_and_comma ts more rest node nodes separator last s k m) =
      item_and_comma _ _ _ _ _ (moved n separator) (moved n last) (spells-moved n others ts node _ s)
      (ap (moved_kind n) k) (items-moved n others more nodes last rest m)
  items-moved n others _ _ _ _ (last_item ts rest node last s k) =
      last_item _ _ _ (moved n last) (spells-moved n others ts node _ s) (ap (moved_kind n) k)

  members-moved : (n : ℕ) (others : Tokens) (ts : Tokens) (members : Members) (last : Token) (rest : Tokens) →
      SpellsMembers ts members last rest →
      SpellsMembers (onto n others ts) (moved_members n members) (moved n last) (onto n others rest)
  members-moved n others _ _ _ _ (ended_members last rest k) = ended_members (moved n last) _ (ap (moved_kind n) k)
  members-moved n others _ _ _ _ (member_and_comma ts more rest key mark node members separator last i c s k m) =
      member_and_comma _ _ _ (moved n key) (moved n mark) _ _ (moved n separator) (moved n last)
      (moved-is_string n key.kind ∙ i) (ap (moved_kind n) c) (spells-moved n others ts node _ s) (ap (moved_kind n) k)
      (members-moved n others more members last rest m)
  members-moved n others _ _ _ _ (last_member ts rest key mark node last i c s k) =
      last_member _ _ (moved n key) (moved n mark) _ (moved n last) (moved-is_string n key.kind ∙ i)
      (ap (moved_kind n) c) (spells-moved n others ts node _ s) (ap (moved_kind n) k)

-- ---- their node has the same tree

-- Each token means in the one text, moved, what it means in the other.
abbrev pub MeanTheSame : List ℕ → List ℕ → ℕ → Tokens → Type 0
MeanTheSame buffer text n ended = Unit {0}
MeanTheSame buffer text n (refused f) = Unit {0}
MeanTheSame buffer text n (next t ts) = (meaning buffer (moved n t) ≡ meaning text t) × MeanTheSame buffer text n ts

mutual
  unfolding moved_node tree_of

  pub tree-moved : (buffer text : List ℕ) (n : ℕ) (ts : Tokens) (node : Node) (rest : Tokens) → Spells ts node rest →
      MeanTheSame buffer text n ts →
      (tree_of buffer (moved_node n node) ≡ tree_of text node) × MeanTheSame buffer text n rest
  tree-moved buffer text n _ _ _ (one_token t rest k) m = m
  tree-moved buffer text n _ _ _ (brackets first last inner rest nodes k s) m =
      let inside = trees-moved buffer text n inner nodes last rest s m.1 in
      (ap (option_map list) inside.0, inside.1)
  tree-moved buffer text n _ _ _ (braces first last inner rest members k s) m =
      let inside = pairs-moved buffer text n inner members last rest s m.1 in
      (ap (option_map pairs) inside.0, inside.1)

  trees-moved : (buffer text : List ℕ) (n : ℕ) (ts : Tokens) (nodes : Nodes) (last : Token) (rest : Tokens) →
      SpellsItems ts nodes last rest → MeanTheSame buffer text n ts →
      (trees_of buffer (moved_nodes n nodes) ≡ trees_of text nodes) × MeanTheSame buffer text n rest
  trees-moved buffer text n _ _ _ _ (closed last rest k) m = (refl, m.1)
  trees-moved buffer text n _ _ _ _ (item_and_comma ts more rest node nodes separator last s k l) m =
      let first = tree-moved buffer text n ts node _ s m in
      let later = trees-moved buffer text n more nodes last rest l first.1.1 in
      (ap₂ put_item first.0 later.0, later.1)
  trees-moved buffer text n _ _ _ _ (last_item ts rest node last s k) m =
      let first = tree-moved buffer text n ts node _ s m in
      (ap (λ o. put_item o (trees_of text no_nodes)) first.0, first.1.1)

  pairs-moved : (buffer text : List ℕ) (n : ℕ) (ts : Tokens) (members : Members) (last : Token) (rest : Tokens) →
      SpellsMembers ts members last rest → MeanTheSame buffer text n ts →
      (pairs_of buffer (moved_members n members) ≡ pairs_of text members) × MeanTheSame buffer text n rest
  pairs-moved buffer text n _ _ _ _ (ended_members last rest k) m = (refl, m.1)
  pairs-moved buffer text n _ _ _ _ (member_and_comma ts more rest key mark node members separator last i c s k l) m =
      let first = tree-moved buffer text n ts node _ s m.1.1 in
      let later = pairs-moved buffer text n more members last rest l first.1.1 in (
        ap₂ (λ t o. put_pair (text_in_tree (meaning buffer (moved n key))) t o) first.0 later.0
            ∙ ap (λ o. put_pair (text_in_tree o) (tree_of text node) (pairs_of text members)) m.0,
        later.1,
      )
  pairs-moved buffer text n _ _ _ _ (last_member ts rest key mark node last i c s k) m =
      let first = tree-moved buffer text n ts node _ s m.1.1 in (
        ap (λ t. put_pair (text_in_tree (meaning buffer (moved n key))) t (pairs_of text no_members)) first.0
            ∙ ap (λ o. put_pair (text_in_tree o) (tree_of text node) (pairs_of text no_members)) m.0,
        first.1.1,
      )
