-- The value that is computed from tokens is the one that they spell, and so is an input's document.
use Rattle.std.proofs.Common.{◌≡◌, ◌↔◌, List, ℕ, zero, suc, ◌+◌, ◌≤◌, true, Option, Some, None, refl, sym, ap, ◌∙◌, subst, arith}
use Rattle.std.specs.Prelude.{ℕ, List, ⊤}
use Rattle.std.specs.Option.{option_map, option_and_then}
use Rattle.facet_json_token.specs.Gap.{Mode, plain}
use Rattle.facet_json_token.specs.Token.{Kind, Token}
use Rattle.facet_json_token.specs.Token as token
use Rattle.facet_json_token.specs.Tokens.{Tokens, ended, refused, next}
use Rattle.facet_json_token.specs.TokenList.{tokens}
use Rattle.facet_json_grammar.specs.Node.{Node, scalar, array, object, Nodes, item, Members, member, is_scalar, is_string, Spells, one_token, brackets, braces, SpellsItems, closed, item_and_comma, last_item, SpellsMembers, ended_members, member_and_comma, last_member}
use Rattle.facet_json_grammar.specs.Tree.{Tree}
use Rattle.facet_json_grammar.specs.Meaning.{tree_of}
use Rattle.facet_json_grammar.specs.Document.{Reads, IsDocument, IsWholeDocument}
use Rattle.facet_json_grammar.specs.Place.{after_colon, goes_on}
use Rattle.facet_json_grammar.specs.Order.{count}
use Rattle.facet_json_grammar.proofs.Spelled.{ValueReader, ItemsReader, MembersReader, node_by, node_from, after_item_by, after_item_from, nodes_by, nodes_from, after_member_by, after_member_from, after_key_by, after_key_from, members_by, members_from, node_within, nodes_within, members_within, spelled, read_by, if_ended, document, whole_document}
use Rattle.facet_json_grammar.proofs.Spelling.OneSpelling.{Starts, Spells-starts}

-- ---- what is computed is spelled

-- A value that is answered stands at the start of the tokens.
abbrev IsValue : Tokens → Option (Node × Tokens) → Type 0
IsValue ts None = ⊤
IsValue ts (Some r) = Spells ts r.0 r.1

-- Items that are answered stand there.
abbrev AreItems : Tokens → Option (Nodes × Token × Tokens) → Type 0
AreItems ts None = ⊤
AreItems ts (Some r) = SpellsItems ts r.0 r.1 r.2

-- Members that are answered stand there.
abbrev AreMembers : Tokens → Option (Members × Token × Tokens) → Type 0
AreMembers ts None = ⊤
AreMembers ts (Some r) = SpellsMembers ts r.0 r.1 r.2

module _ (node : ValueReader) (nodes : ItemsReader) (members : MembersReader)
    (is_value : (ts : Tokens) → IsValue ts (node ts)) (are_items : (ts : Tokens) → AreItems ts (nodes ts))
    (are_members : (ts : Tokens) → AreMembers ts (members ts)) where
  in_brackets : (t : Token) (rest : Tokens) (o : Option (Nodes × Token × Tokens)) → t.kind ≡ token.array_start →
      AreItems rest o → IsValue (next t rest) (option_map (λ r. (array t r.1 r.0, r.2)) o)
  in_brackets t rest None e h = tt
  in_brackets t rest (Some r) e h = brackets t r.1 rest r.2 r.0 e h

  in_braces : (t : Token) (rest : Tokens) (o : Option (Members × Token × Tokens)) → t.kind ≡ token.object_start →
      AreMembers rest o → IsValue (next t rest) (option_map (λ r. (object t r.1 r.0, r.2)) o)
  in_braces t rest None e h = tt
  in_braces t rest (Some r) e h = braces t r.1 rest r.2 r.0 e h

  value_by : (t : Token) (rest : Tokens) (kind : Kind) → t.kind ≡ kind →
      IsValue (next t rest) (node_by nodes members t rest kind)
  value_by t rest token.array_start e = in_brackets t rest (nodes rest) e (are_items rest)
  value_by t rest token.object_start e = in_braces t rest (members rest) e (are_members rest)
  value_by t rest token.null e = one_token t rest (rw e refl)
  value_by t rest token.true_literal e = one_token t rest (rw e refl)
  value_by t rest token.false_literal e = one_token t rest (rw e refl)
  value_by t rest (token.string start finish has_escapes) e = one_token t rest (rw e refl)
  value_by t rest (token.number start finish hint) e = one_token t rest (rw e refl)
  value_by t rest _ e = tt

  value_from : (ts : Tokens) → IsValue ts (node_from nodes members ts)
  value_from ended = tt
  value_from (refused f) = tt
  value_from (next t rest) = value_by t rest t.kind refl

  more_items : (ts rest : Tokens) (first : Node) (t : Token) (o : Option (Nodes × Token × Tokens)) →
      Spells ts first (next t rest) → t.kind ≡ token.comma → AreItems rest o →
      AreItems ts (option_map (λ r. (item first r.0, r.1, r.2)) o)
  more_items ts rest first t None s e h = tt
  more_items ts rest first t (Some r) s e h = item_and_comma ts rest r.2 first r.0 t r.1 s e h

  items_after_by : (ts rest : Tokens) (first : Node) (t : Token) (kind : Kind) → Spells ts first (next t rest) →
      t.kind ≡ kind → AreItems ts (after_item_by nodes first t rest kind)
  items_after_by ts rest first t token.comma s e = more_items ts rest first t (nodes rest) s e (are_items rest)
  items_after_by ts rest first t token.array_end s e = last_item ts rest first t s e
  items_after_by ts rest first t _ s e = tt

  items_after : (ts us : Tokens) (first : Node) → Spells ts first us → AreItems ts (after_item_from nodes first us)
  items_after ts ended first s = tt
  items_after ts (refused f) first s = tt
  items_after ts (next t rest) first s = items_after_by ts rest first t t.kind s refl

  an_item : (ts : Tokens) (o : Option (Node × Tokens)) → IsValue ts o →
      AreItems ts (option_and_then (λ r. after_item_from nodes r.0 r.1) o)
  an_item ts None h = tt
  an_item ts (Some r) h = items_after ts r.1 r.0 h

  items_by : (t : Token) (rest : Tokens) (kind : Kind) → t.kind ≡ kind →
      AreItems (next t rest) (nodes_by node nodes t rest kind)
  items_by t rest token.array_end e = closed t rest e
  items_by t rest _ e = an_item (next t rest) (node (next t rest)) (is_value (next t rest))

  items_from : (ts : Tokens) → AreItems ts (nodes_from node nodes ts)
  items_from ended = tt
  items_from (refused f) = tt
  items_from (next t rest) = items_by t rest t.kind refl

  module _ (key : Token) (is_key : is_string key.kind ≡ true) where
    module _ (mark : Token) (is_mark : mark.kind ≡ token.colon) (ts : Tokens) (value : Node) where
      more_members : (rest : Tokens) (t : Token) (o : Option (Members × Token × Tokens)) →
          Spells ts value (next t rest) → t.kind ≡ token.comma → AreMembers rest o →
          AreMembers (next key (next mark ts)) (option_map (λ r. (member key mark value r.0, r.1, r.2)) o)
      more_members rest t None s e h = tt
      more_members rest t (Some r) s e h = member_and_comma ts rest r.2 key mark value r.0 t r.1 is_key is_mark s e h

      members_after_by : (rest : Tokens) (t : Token) (kind : Kind) → Spells ts value (next t rest) → t.kind ≡ kind →
          AreMembers (next key (next mark ts)) (after_member_by members key mark value t rest kind)
      members_after_by rest t token.comma s e = more_members rest t (members rest) s e (are_members rest)
      members_after_by rest t token.object_end s e = last_member ts rest key mark value t is_key is_mark s e
      members_after_by rest t _ s e = tt

      members_after : (us : Tokens) → Spells ts value us →
          AreMembers (next key (next mark ts)) (after_member_from members key mark value us)
      members_after ended s = tt
      members_after (refused f) s = tt
      members_after (next t rest) s = members_after_by rest t t.kind s refl

    a_member : (mark : Token) (ts : Tokens) (o : Option (Node × Tokens)) → mark.kind ≡ token.colon → IsValue ts o →
        AreMembers (next key (next mark ts)) (option_and_then (λ r. after_member_from members key mark r.0 r.1) o)
    a_member mark ts None e h = tt
    a_member mark ts (Some r) e h = members_after mark e ts r.0 r.1 h

    key_by : (t : Token) (rest : Tokens) (kind : Kind) → t.kind ≡ kind →
        AreMembers (next key (next t rest)) (after_key_by node members key t rest kind)
    key_by t rest token.colon e = a_member t rest (node rest) e (is_value rest)
    key_by t rest _ e = tt

    key_from : (ts : Tokens) → AreMembers (next key ts) (after_key_from node members key ts)
    key_from ended = tt
    key_from (refused f) = tt
    key_from (next t rest) = key_by t rest t.kind refl

  pairs_by : (t : Token) (rest : Tokens) (kind : Kind) → t.kind ≡ kind →
      AreMembers (next t rest) (members_by node members t rest kind)
  pairs_by t rest token.object_end e = ended_members t rest e
  pairs_by t rest (token.string start finish has_escapes) e = key_from t (rw e refl) rest
  pairs_by t rest _ e = tt

  pairs_from : (ts : Tokens) → AreMembers ts (members_from node members ts)
  pairs_from ended = tt
  pairs_from (refused f) = tt
  pairs_from (next t rest) = pairs_by t rest t.kind refl

mutual
  unfolding node_within

  node_within-is : (n : ℕ) (ts : Tokens) → IsValue ts (node_within n ts)
  node_within-is zero ts = tt
  node_within-is (suc n) ts =
      value_from _ _ _ (node_within-is n) (nodes_within-are n) (members_within-are n) ts

  nodes_within-are : (n : ℕ) (ts : Tokens) → AreItems ts (nodes_within n ts)
  nodes_within-are zero ts = tt
  nodes_within-are (suc n) ts =
      items_from _ _ _ (node_within-is n) (nodes_within-are n) (members_within-are n) ts

  members_within-are : (n : ℕ) (ts : Tokens) → AreMembers ts (members_within n ts)
  members_within-are zero ts = tt
  members_within-are (suc n) ts =
      pairs_from _ _ _ (node_within-is n) (nodes_within-are n) (members_within-are n) ts

-- ---- what is spelled is computed

mutual
  -- A spelling has a token.
  spelled-count : {ts rest : Tokens} {node : Node} → Spells ts node rest → suc (count rest) ≤ count ts
  spelled-count (one_token t rest e) = omega arith
  spelled-count (brackets first last inner rest nodes e h) = omega (arith, items-count h)
  spelled-count (braces first last inner rest ms e h) = omega (arith, members-count h)

  items-count : {ts rest : Tokens} {nodes : Nodes} {last : Token} → SpellsItems ts nodes last rest →
      suc (count rest) ≤ count ts
  items-count (closed last rest e) = omega arith
  items-count (item_and_comma ts others rest node nodes separator last s e h) =
      omega (arith, spelled-count s, items-count h)
  items-count (last_item ts rest node last s e) = omega (arith, spelled-count s)

  members-count : {ts rest : Tokens} {ms : Members} {last : Token} → SpellsMembers ts ms last rest →
      suc (count rest) ≤ count ts
  members-count (ended_members last rest e) = omega arith
  members-count (member_and_comma ts others rest key mark node ms separator last k c s e h) =
      omega (arith, spelled-count s, members-count h)
  members-count (last_member ts rest key mark node last k c s e) = omega (arith, spelled-count s)

scalar_found : (nodes : ItemsReader) (members : MembersReader) (t : Token) (rest : Tokens) (kind : Kind) →
    is_scalar kind ≡ true → node_by nodes members t rest kind ≡ Some (scalar t, rest)
scalar_found nodes members t rest token.object_start e = cc
scalar_found nodes members t rest token.object_end e = cc
scalar_found nodes members t rest token.array_start e = cc
scalar_found nodes members t rest token.array_end e = cc
scalar_found nodes members t rest token.colon e = cc
scalar_found nodes members t rest token.comma e = cc
scalar_found nodes members t rest _ e = refl

item_found : (node : ValueReader) (nodes : ItemsReader) (t : Token) (rest : Tokens) (kind : Kind) →
    goes_on after_colon kind ≡ true → nodes_by node nodes t rest kind ≡ option_and_then (λ r. after_item_from nodes r.0 r.1)
    (node (next t rest))
item_found node nodes t rest token.array_end e = cc
item_found node nodes t rest _ e = refl

-- An item at the start is read first.
item_first : (node : ValueReader) (nodes : ItemsReader) (ts : Tokens) → Starts ts →
    nodes_from node nodes ts ≡ option_and_then (λ r. after_item_from nodes r.0 r.1) (node ts)
item_first node nodes ts s =
    subst (λ us. nodes_from node nodes us ≡ option_and_then (λ r. after_item_from nodes r.0 r.1) (node us))
    (sym s.here) (item_found node nodes s.first s.others s.first.kind s.begins)

key_found : (node : ValueReader) (members : MembersReader) (t : Token) (rest : Tokens) (kind : Kind) →
    is_string kind ≡ true → members_by node members t rest kind ≡ after_key_from node members t rest
key_found node members t rest (token.string start finish has_escapes) e = refl
key_found node members t rest _ e = cc

mutual
  unfolding node_within

  node_within-found : {ts rest : Tokens} {node : Node} → Spells ts node rest → (n : ℕ) → count ts ≤ n + count rest →
      node_within n ts ≡ Some (node, rest)
  node_within-found (one_token t rest e) zero h = absurd (omega arith)
  node_within-found (one_token t rest e) (suc n) h = scalar_found (nodes_within n) (members_within n) t rest t.kind e
  node_within-found (brackets first last inner rest nodes e s) zero h = absurd (omega (arith, items-count s))
  node_within-found (brackets first last inner rest nodes e s) (suc n) h =
      ap (node_by (nodes_within n) (members_within n) first inner) e
      ∙ ap (option_map (λ r. (array first r.1 r.0, r.2))) (nodes_within-found s n (omega arith))
  node_within-found (braces first last inner rest ms e s) zero h = absurd (omega (arith, members-count s))
  node_within-found (braces first last inner rest ms e s) (suc n) h =
      ap (node_by (nodes_within n) (members_within n) first inner) e
      ∙ ap (option_map (λ r. (object first r.1 r.0, r.2))) (members_within-found s n (omega arith))

  nodes_within-found : {ts rest : Tokens} {nodes : Nodes} {last : Token} → SpellsItems ts nodes last rest → (n : ℕ) →
      count ts ≤ n + count rest → nodes_within n ts ≡ Some (nodes, last, rest)
  nodes_within-found (closed last rest e) zero h = absurd (omega arith)
  nodes_within-found (closed last rest e) (suc n) h = ap (nodes_by (node_within n) (nodes_within n) last rest) e
  nodes_within-found (item_and_comma ts others rest node nodes separator last s e k) zero h =
      absurd (omega (arith, spelled-count s, items-count k))
  nodes_within-found (item_and_comma ts others rest node nodes separator last s e k) (suc n) h =
      item_first (node_within n) (nodes_within n) ts (Spells-starts s)
      ∙ ap (option_and_then (λ r. after_item_from (nodes_within n) r.0 r.1))
      (node_within-found s n (omega (arith, items-count k)))
      ∙ ap (after_item_by (nodes_within n) node separator others) e
      ∙ ap (option_map (λ r. (item node r.0, r.1, r.2))) (nodes_within-found k n (omega (arith, spelled-count s)))
  nodes_within-found (last_item ts rest node last s e) zero h = absurd (omega (arith, spelled-count s))
  nodes_within-found (last_item ts rest node last s e) (suc n) h =
      item_first (node_within n) (nodes_within n) ts (Spells-starts s)
      ∙ ap (option_and_then (λ r. after_item_from (nodes_within n) r.0 r.1)) (node_within-found s n (omega arith))
      ∙ ap (after_item_by (nodes_within n) node last rest) e

  members_within-found : {ts rest : Tokens} {ms : Members} {last : Token} → SpellsMembers ts ms last rest → (n : ℕ) →
      count ts ≤ n + count rest → members_within n ts ≡ Some (ms, last, rest)
  members_within-found (ended_members last rest e) zero h = absurd (omega arith)
  members_within-found (ended_members last rest e) (suc n) h =
      ap (members_by (node_within n) (members_within n) last rest) e
  members_within-found (member_and_comma ts others rest key mark node ms separator last k c s e l) zero h =
      absurd (omega (arith, spelled-count s, members-count l))
  members_within-found (member_and_comma ts others rest key mark node ms separator last k c s e l) (suc n) h =
      key_found (node_within n) (members_within n) key (next mark ts) key.kind k
      ∙ ap (after_key_by (node_within n) (members_within n) key mark ts) c
      ∙ ap (option_and_then (λ r. after_member_from (members_within n) key mark r.0 r.1))
      (node_within-found s n (omega (arith, members-count l)))
      ∙ ap (after_member_by (members_within n) key mark node separator others) e
      ∙ ap (option_map (λ r. (member key mark node r.0, r.1, r.2)))
      (members_within-found l n (omega (arith, spelled-count s)))
  members_within-found (last_member ts rest key mark node last k c s e) zero h = absurd (omega (arith, spelled-count s))
  members_within-found (last_member ts rest key mark node last k c s e) (suc n) h =
      key_found (node_within n) (members_within n) key (next mark ts) key.kind k
      ∙ ap (after_key_by (node_within n) (members_within n) key mark ts) c
      ∙ ap (option_and_then (λ r. after_member_from (members_within n) key mark r.0 r.1))
      (node_within-found s n (omega arith))
      ∙ ap (after_member_by (members_within n) key mark node last rest) e

-- ---- the laws

-- The value that is computed from tokens is the one that they spell.
pub spelled_is_spells : (ts rest : Tokens) (node : Node) → (spelled ts ≡ Some (node, rest)) ↔ Spells ts node rest
unfolding spelled
spelled_is_spells ts rest node =
    (λ e. subst (IsValue ts) e (node_within-is (count ts) ts), λ s. node_within-found s (count ts) (omega arith))

-- a node with its tree, where it has one
abbrev with_tree : List ℕ → Node × Tokens → Option (Node × Tree)
with_tree buffer r = option_map (λ value. (r.0, value)) (tree_of buffer r.0)

with_tree-reads : (buffer : List ℕ) (ts : Tokens) (r : Node × Tokens) (root : Node) (value : Tree) (o : Option Tree) →
    tree_of buffer r.0 ≡ o → option_map {U = Node × Tree} (λ v. (r.0, v)) o ≡ Some (root, value) → Spells ts r.0 r.1 →
    Reads buffer ts root value r.1
with_tree-reads buffer ts r root value None e h s = cc
with_tree-reads buffer ts r root value (Some v) e h s =
    let both : ◌≡◌ {A = Node × Tree} (r.0, v) (root, value) = cc in
    let same : r.0 ≡ root = ap (λ p. p.0) both in
    let tree_same : v ≡ value = ap (λ p. p.1) both in
    record {
      spells = subst (λ n. Spells ts n r.1) same s;
      has_tree = subst (λ n. tree_of buffer n ≡ Some value) same (e ∙ ap Some tree_same);
    }

found-reads : (buffer : List ℕ) (ts : Tokens) (root : Node) (value : Tree) (o : Option (Node × Tokens)) → IsValue ts o →
    option_and_then (with_tree buffer) o ≡ Some (root, value) → (rest : Tokens) × Reads buffer ts root value rest
found-reads buffer ts root value None h e = cc
found-reads buffer ts root value (Some r) h e = (r.1, with_tree-reads buffer ts r root value (tree_of buffer r.0) refl e h)

-- What is computed is what is read, by whatever meaning.
read_by-reads : (buffer : List ℕ) (ts : Tokens) (root : Node) (value : Tree) → read_by buffer ts ≡ Some (root, value) →
    (rest : Tokens) × Reads buffer ts root value rest
unfolding read_by spelled
read_by-reads buffer ts root value e = found-reads buffer ts root value (spelled ts) (node_within-is (count ts) ts) e

-- What is read is what is computed.
reads-read_by : (buffer : List ℕ) (ts rest : Tokens) (root : Node) (value : Tree) → Reads buffer ts root value rest →
    read_by buffer ts ≡ Some (root, value)
unfolding read_by
reads-read_by buffer ts rest root value r =
    ap (option_and_then (with_tree buffer)) ((spelled_is_spells ts rest root).1 r.spells)
    ∙ ap (option_map (λ v. (root, v))) r.has_tree

-- The document that is computed is the one of the input.
pub document_is_found : (buffer : List ℕ) (mode : Mode) (root : Node) (value : Tree) →
    (document buffer mode ≡ Some (root, value)) ↔ IsDocument buffer mode root value
document_is_found buffer mode root value = (
  λ e. (let r = read_by-reads buffer (tokens buffer mode) root value e in record { rest = r.0; reads = r.1 }),
  λ d. reads-read_by buffer (tokens buffer mode) d.rest root value d.reads,
)

-- a node with its tree, where it has one
abbrev node_with_tree : List ℕ → Node → Option (Node × Tree)
node_with_tree buffer node = option_map (λ value. (node, value)) (tree_of buffer node)

-- A spelling that nothing follows is read with its tree.
ended-reads : (buffer : List ℕ) (ts rest : Tokens) (node root : Node) (value : Tree) → Spells ts node rest →
    option_and_then (node_with_tree buffer) (if_ended node rest) ≡ Some (root, value) → Reads buffer ts root value ended
ended-reads buffer ts ended node root value s e =
    with_tree-reads buffer ts (node, ended) root value (tree_of buffer node) refl e s
ended-reads buffer ts (refused f) node root value s e = cc
ended-reads buffer ts (next t rest) node root value s e = cc

-- What is computed as a whole document is read.
whole-reads : (buffer : List ℕ) (ts : Tokens) (root : Node) (value : Tree) (o : Option (Node × Tokens)) → IsValue ts o →
    option_and_then (node_with_tree buffer) (option_and_then (λ r. if_ended r.0 r.1) o) ≡ Some (root, value) →
    Reads buffer ts root value ended
whole-reads buffer ts root value None h e = cc
whole-reads buffer ts root value (Some r) h e = ended-reads buffer ts r.1 r.0 root value h e

-- What is computed as the whole document of a text is the one plain document that all of it is.
pub whole_document_is_found : (buffer : List ℕ) (root : Node) (value : Tree) →
    (whole_document buffer ≡ Some (root, value)) ↔ IsWholeDocument buffer root value
unfolding whole_document spelled
whole_document_is_found buffer root value =
    let ts = tokens buffer plain in
    let found : whole_document buffer ≡ Some (root, value) → IsWholeDocument buffer root value =
    λ e. record { reads = whole-reads buffer ts root value (spelled ts) (node_within-is (count ts) ts) e } in
    let finds : IsWholeDocument buffer root value → whole_document buffer ≡ Some (root, value) =
    λ d. ap (λ o. option_and_then (node_with_tree buffer) (option_and_then (λ r. if_ended r.0 r.1) o))
    ((spelled_is_spells ts ended root).1 d.reads.spells)
    ∙ ap (option_map (λ v. (root, v))) d.reads.has_tree in
    (found, finds)
