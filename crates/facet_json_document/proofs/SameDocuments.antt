-- Two texts whose tokens are alike but for commas that trail have the same document.
use Rattle.std.proofs.Common.{◌≡◌, ℕ, true, false, List, refl, sym, ap, ap₂, ◌∙◌, subst}
use Rattle.std.specs.Option.{option_map}
use Rattle.facet_json_token.specs.Token.{Kind, Token, object_start, object_end, array_start, array_end, colon, comma}
use Rattle.facet_json_token.specs.Token as token
use Rattle.facet_json_token.specs.Tokens.{Tokens, ended, next}
use Rattle.facet_json_grammar.specs.Meaning.{meaning, tree_of, trees_of, pairs_of, put_item, put_pair, text_in_tree}
use Rattle.facet_json_grammar.specs.Node.{Node, scalar, array, object, Nodes, no_nodes, item, Members, no_members, member, is_scalar, is_string, Spells, one_token, brackets, braces, SpellsItems, closed, item_and_comma, last_item, SpellsMembers, ended_members, member_and_comma, last_member}
use Rattle.facet_json_grammar.specs.Refusal.{needs_meaning}
use Rattle.facet_json_grammar.specs.StrictDocument.{is_closing, begins_closing}
use Rattle.facet_json_grammar.specs.Tree.{list, pairs}
use Rattle.facet_json_grammar.proofs.Values.FitBefore.{value-begins}
use Rattle.facet_json_core.specs.Meaning.Nodes.{SameToken, same_mark, same_string, same_number}
use Rattle.facet_json_core.proofs.Meaning.Leaves.LeafLaws.{same-means}

-- Of the one text's tokens the other has the same, but for commas before a closing bracket.
pub data Alike (these those : List ℕ) : Tokens → Tokens → Type 0 where
  both_end : Alike these those ended ended
  both_go_on : (t u : Token) (ts us : Tokens) → SameToken these those t u → Alike these those ts us → Alike these those (next t ts) (next u us)
  comma_goes : (t : Token) (ts us : Tokens) → t.kind ≡ comma → begins_closing ts ≡ true → Alike these those ts us →
      Alike these those (next t ts) us

module _ (these those : List ℕ) where
  -- ---- one token

  -- A mark is the same.
  mark-there : (t u : Token) (kind : Kind) → needs_meaning kind ≡ false → t.kind ≡ kind → SameToken these those t u → u.kind ≡ kind
  mark-there t u kind plain e (same_mark _ _ n k) = sym k ∙ e
  mark-there t u kind plain e (same_string _ _ s f b d h k l x) =
      let is : needs_meaning (token.string s f h) ≡ false = ap needs_meaning (sym k ∙ e) ∙ plain in cc
  mark-there t u kind plain e (same_number _ _ s f b d h k l x) =
      let is : needs_meaning (token.number s f h) ≡ false = ap needs_meaning (sym k ∙ e) ∙ plain in cc

  scalar-there : (t u : Token) → is_scalar t.kind ≡ true → SameToken these those t u → is_scalar u.kind ≡ true
  scalar-there t u e (same_mark _ _ n k) = ap is_scalar (sym k) ∙ e
  scalar-there t u e (same_string _ _ s f b d h k l x) = ap is_scalar l
  scalar-there t u e (same_number _ _ s f b d h k l x) = ap is_scalar l

  string-there : (t u : Token) → is_string t.kind ≡ true → SameToken these those t u → is_string u.kind ≡ true
  string-there t u e (same_mark _ _ n k) = ap is_string (sym k) ∙ e
  string-there t u e (same_string _ _ s f b d h k l x) = ap is_string l
  string-there t u e (same_number _ _ s f b d h k l x) = let is : false ≡ true = sym (ap is_string k) ∙ e in cc

  string-open : (kind : Kind) → is_string kind ≡ true → is_closing kind ≡ false
  string-open (token.string s f h) e = refl
  string-open kind e = cc

  -- ---- the first token

  -- One that is no comma is there.
  record GoesOn (t : Token) (ts us : Tokens) : Type 0 where
    first : Token
    others : Tokens
    is : us ≡ next first others
    same : SameToken these those t first
    alike : Alike these those ts others

  goes-on : (t : Token) (ts us : Tokens) → (t.kind ≡ comma → ⊥) → Alike these those (next t ts) us → GoesOn t ts us
  goes-on t ts _ other (both_go_on _ u _ us same alike) = record { first = u; others = us; is = refl; same = same; alike = alike }
  goes-on t ts us other (comma_goes _ _ _ e closes alike) = absurd (other e)

  no-comma : (t : Token) (kind : Kind) → t.kind ≡ kind → (kind ≡ comma → ⊥) → t.kind ≡ comma → ⊥
  no-comma t kind e other c = other (sym e ∙ c)

  scalar-no_comma : (t : Token) → is_scalar t.kind ≡ true → t.kind ≡ comma → ⊥
  scalar-no_comma t e c = let is : false ≡ true = sym (ap is_scalar c) ∙ e in cc

  string-no_comma : (t : Token) → is_string t.kind ≡ true → t.kind ≡ comma → ⊥
  string-no_comma t e c = let is : false ≡ true = sym (ap is_string c) ∙ e in cc

  -- ---- nodes

  -- The other text's tokens spell a node with the same tree.
  pub record SpelledThere (node : Node) (rest us : Tokens) : Type 0 where
    pub root : Node
    pub left : Tokens
    pub spells : Spells us root left
    pub alike : Alike these those rest left
    pub tree : tree_of those root ≡ tree_of these node

  record ItemsThere (nodes : Nodes) (rest us : Tokens) : Type 0 where
    roots : Nodes
    end : Token
    left : Tokens
    spells : SpellsItems us roots end left
    alike : Alike these those rest left
    trees : trees_of those roots ≡ trees_of these nodes

  record MembersThere (members : Members) (rest us : Tokens) : Type 0 where
    roots : Members
    end : Token
    left : Tokens
    spells : SpellsMembers us roots end left
    alike : Alike these those rest left
    trees : pairs_of those roots ≡ pairs_of these members

  -- The items behind a comma, which may have gone.
  items-behind : (us left : Tokens) (node root : Node) (nodes : Nodes) (separator last : Token) (others rest : Tokens) → Spells us root left →
      tree_of those root ≡ tree_of these node → separator.kind ≡ comma → SpellsItems others nodes last rest →
      ((left : Tokens) → Alike these those others left → ItemsThere nodes rest left) → Alike these those (next separator others) left → ItemsThere (item node nodes) rest us
  unfolding tree_of
  items-behind us _ node root nodes separator last others rest spells tree k more behind (both_go_on _ u _ left same alike) =
      let later = behind left alike in
      record {
        roots = item root later.roots;
        end = later.end;
        left = later.left;
        spells = item_and_comma us left later.left root later.roots u later.end spells (mark-there separator u comma refl k same) later.spells;
        alike = later.alike;
        trees = ap₂ put_item tree later.trees;
      }
  items-behind us left node root _ separator last _ rest spells tree k (closed _ _ end) behind (comma_goes _ _ _ e closes alike) =
      let on = goes-on last rest left (no-comma last array_end end (λ e. cc)) alike in
      record {
        roots = item root no_nodes;
        end = on.first;
        left = on.others;
        spells = last_item us on.others root on.first (subst (Spells us root) on.is spells) (mark-there last on.first array_end refl end on.same);
        alike = on.alike;
        trees = ap (λ t. put_item t (trees_of these no_nodes)) tree;
      }
  items-behind us left node root _ separator last _ rest spells tree k (item_and_comma ts _ _ _ _ _ _ s _ _) behind (comma_goes _ _ _ e closes alike) =
      let opens = value-begins s in cc
  items-behind us left node root _ separator last _ rest spells tree k (last_item ts _ _ _ s _) behind (comma_goes _ _ _ e closes alike) =
      let opens = value-begins s in cc

  -- A member, and those behind its comma, which may have gone.
  members-behind : (us left : Tokens) (node root : Node) (name at key mark : Token) (members : Members) (separator last : Token) (others rest : Tokens) →
      Spells us root left → tree_of those root ≡ tree_of these node → is_string name.kind ≡ true → at.kind ≡ colon → SameToken these those key name →
      separator.kind ≡ comma → SpellsMembers others members last rest →
      ((left : Tokens) → Alike these those others left → MembersThere members rest left) → Alike these those (next separator others) left →
      MembersThere (member key mark node members) rest (next name (next at us))
  unfolding tree_of
  members-behind us _ node root name at key mark members separator last others rest spells tree i c key_same k more behind (both_go_on _ u _ left same alike) =
      let later = behind left alike in
      record {
        roots = member name at root later.roots;
        end = later.end;
        left = later.left;
        spells =
            member_and_comma us left later.left name at root later.roots u later.end i c spells (mark-there separator u comma refl k same) later.spells;
        alike = later.alike;
        trees =
            ap₂ (λ t o. put_pair (text_in_tree (meaning those name)) t o) tree later.trees
            ∙ ap (λ o. put_pair (text_in_tree o) (tree_of these node) (pairs_of these members)) (sym (same-means these those key name key_same));
      }
  members-behind us left node root name at key mark _ separator last _ rest spells tree i c key_same k (ended_members _ _ end) behind (comma_goes _ _ _ e closes alike) =
      let on = goes-on last rest left (no-comma last object_end end (λ e. cc)) alike in
      record {
        roots = member name at root no_members;
        end = on.first;
        left = on.others;
        spells =
            last_member us on.others name at root on.first i c (subst (Spells us root) on.is spells) (mark-there last on.first object_end refl end on.same);
        alike = on.alike;
        trees =
            ap (λ t. put_pair (text_in_tree (meaning those name)) t (pairs_of these no_members)) tree
            ∙ ap (λ o. put_pair (text_in_tree o) (tree_of these node) (pairs_of these no_members)) (sym (same-means these those key name key_same));
      }
  members-behind us left node root name at key mark _ separator last _ rest spells tree i c key_same k (member_and_comma _ _ _ first _ _ _ _ _ is _ _ _ _) behind (comma_goes _ _ _ e closes alike) =
      let opens = string-open first.kind is in cc
  members-behind us left node root name at key mark _ separator last _ rest spells tree i c key_same k (last_member _ _ first _ _ _ is _ _ _) behind (comma_goes _ _ _ e closes alike) =
      let opens = string-open first.kind is in cc

  mutual
    unfolding tree_of

    pub node-there : (ts : Tokens) (node : Node) (rest us : Tokens) → Spells ts node rest → Alike these those ts us → SpelledThere node rest us
    node-there _ _ _ us (one_token t rest k) alike =
        let on = goes-on t rest us (scalar-no_comma t k) alike in
        record {
          root = scalar on.first;
          left = on.others;
          spells = subst (λ us. Spells us (scalar on.first) on.others) (sym on.is) (one_token on.first on.others (scalar-there t on.first k on.same));
          alike = on.alike;
          tree = sym (same-means these those t on.first on.same);
        }
    node-there _ _ _ us (brackets first last inner rest nodes k s) alike =
        let on = goes-on first inner us (no-comma first array_start k (λ e. cc)) alike in
        let inside = items-there inner nodes last rest on.others s on.alike in
        record {
          root = array on.first inside.end inside.roots;
          left = inside.left;
          spells =
              subst (λ us. Spells us (array on.first inside.end inside.roots) inside.left) (sym on.is)
              (brackets on.first inside.end on.others inside.left inside.roots (mark-there first on.first array_start refl k on.same) inside.spells);
          alike = inside.alike;
          tree = ap (option_map list) inside.trees;
        }
    node-there _ _ _ us (braces first last inner rest members k s) alike =
        let on = goes-on first inner us (no-comma first object_start k (λ e. cc)) alike in
        let inside = members-there inner members last rest on.others s on.alike in
        record {
          root = object on.first inside.end inside.roots;
          left = inside.left;
          spells =
              subst (λ us. Spells us (object on.first inside.end inside.roots) inside.left) (sym on.is)
              (braces on.first inside.end on.others inside.left inside.roots (mark-there first on.first object_start refl k on.same) inside.spells);
          alike = inside.alike;
          tree = ap (option_map pairs) inside.trees;
        }

    items-there : (ts : Tokens) (nodes : Nodes) (last : Token) (rest us : Tokens) → SpellsItems ts nodes last rest → Alike these those ts us →
        ItemsThere nodes rest us
    items-there _ _ _ _ us (closed last rest k) alike =
        let on = goes-on last rest us (no-comma last array_end k (λ e. cc)) alike in
        record {
          roots = no_nodes;
          end = on.first;
          left = on.others;
          spells =
              subst (λ us. SpellsItems us no_nodes on.first on.others) (sym on.is)
              (closed on.first on.others (mark-there last on.first array_end refl k on.same));
          alike = on.alike;
          trees = refl;
        }
    items-there _ _ _ _ us (last_item ts rest node last s k) alike =
        let one = node-there ts node (next last rest) us s alike in
        let on = goes-on last rest one.left (no-comma last array_end k (λ e. cc)) one.alike in
        record {
          roots = item one.root no_nodes;
          end = on.first;
          left = on.others;
          spells =
              last_item us on.others one.root on.first (subst (Spells us one.root) on.is one.spells)
              (mark-there last on.first array_end refl k on.same);
          alike = on.alike;
          trees = ap (λ t. put_item t (trees_of these no_nodes)) one.tree;
        }
    items-there _ _ _ _ us (item_and_comma ts others rest node nodes separator last s k more) alike =
        let one = node-there ts node (next separator others) us s alike in
        items-behind us one.left node one.root nodes separator last others rest one.spells one.tree k more
        (λ left alike. items-there others nodes last rest left more alike) one.alike

    members-there : (ts : Tokens) (members : Members) (last : Token) (rest us : Tokens) → SpellsMembers ts members last rest →
        Alike these those ts us → MembersThere members rest us
    members-there _ _ _ _ us (ended_members last rest k) alike =
        let on = goes-on last rest us (no-comma last object_end k (λ e. cc)) alike in
        record {
          roots = no_members;
          end = on.first;
          left = on.others;
          spells =
              subst (λ us. SpellsMembers us no_members on.first on.others) (sym on.is)
              (ended_members on.first on.others (mark-there last on.first object_end refl k on.same));
          alike = on.alike;
          trees = refl;
        }
    members-there _ _ _ _ us (last_member ts rest key mark node last i c s k) alike =
        let name = goes-on key (next mark ts) us (string-no_comma key i) alike in
        let at = goes-on mark ts name.others (no-comma mark colon c (λ e. cc)) name.alike in
        let one = node-there ts node (next last rest) at.others s at.alike in
        let on = goes-on last rest one.left (no-comma last object_end k (λ e. cc)) one.alike in
        record {
          roots = member name.first at.first one.root no_members;
          end = on.first;
          left = on.others;
          spells =
              subst (λ us. SpellsMembers us (member name.first at.first one.root no_members) on.first on.others)
              (sym (name.is ∙ ap (next name.first) at.is))
              (last_member at.others on.others name.first at.first one.root on.first (string-there key name.first i name.same)
              (mark-there mark at.first colon refl c at.same) (subst (Spells at.others one.root) on.is one.spells)
              (mark-there last on.first object_end refl k on.same));
          alike = on.alike;
          trees =
              ap (λ t. put_pair (text_in_tree (meaning those name.first)) t (pairs_of these no_members)) one.tree
              ∙ ap (λ o. put_pair (text_in_tree o) (tree_of these node) (pairs_of these no_members)) (sym (same-means these those key name.first name.same));
        }
    members-there _ _ _ _ us (member_and_comma ts others rest key mark node members separator last i c s k more) alike =
        let name = goes-on key (next mark ts) us (string-no_comma key i) alike in
        let at = goes-on mark ts name.others (no-comma mark colon c (λ e. cc)) name.alike in
        let one = node-there ts node (next separator others) at.others s at.alike in
        let tail = members-behind at.others one.left node one.root name.first at.first key mark members separator last others rest one.spells one.tree
        (string-there key name.first i name.same) (mark-there mark at.first colon refl c at.same) name.same k more
        (λ left alike. members-there others members last rest left more alike) one.alike in
        record {
          roots = tail.roots;
          end = tail.end;
          left = tail.left;
          spells = subst (λ us. SpellsMembers us tail.roots tail.end tail.left) (sym (name.is ∙ ap (next name.first) at.is)) tail.spells;
          alike = tail.alike;
          trees = tail.trees;
        }
