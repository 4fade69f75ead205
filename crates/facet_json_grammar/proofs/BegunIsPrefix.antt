-- A prefix of tokens begins a document exactly where it is a prefix of the spelling of some value.
use Rattle.std.specs.Prelude.{ℕ, List, All}
use Rattle.std.proofs.lemmas.List.Elements.{All-nil, All-same}
use Rattle.std.proofs.Common.{◌≡◌, ℕ, ◌⊎◌, inl, inr, true, List, [], ◌∷◌, ◌++◌, Some, refl, sym, ap, ◌∙◌, subst, arith}
use Rattle.facet_format.specs.Span.{span_at}
use Rattle.facet_json_token.specs.Token.{Kind, Token}
use Rattle.facet_json_token.specs.Token as token
use Rattle.facet_json_token.specs.Tokens.{Tokens, next}
use Rattle.facet_json_grammar.specs.Node.{Node, scalar, Nodes, no_nodes, item, Members, no_members, member, is_string, Spells, one_token, brackets, braces, SpellsItems, closed, item_and_comma, last_item, SpellsMembers, ended_members, member_and_comma, last_member}
use Rattle.facet_json_grammar.specs.Node as shapes
use Rattle.facet_json_grammar.specs.Tree.{Tree, Trees, no_trees, Pairs, no_pairs}
use Rattle.facet_json_grammar.specs.Tree as trees
use Rattle.facet_json_grammar.specs.Meaning.{meaning, tree_of, trees_of, pairs_of, text_in_tree}
use Rattle.facet_json_grammar.specs.Place.{Place, root, before_key, after_key, after_colon, after_member, before_item, after_item}
use Rattle.facet_format.specs.Event.{Passed}
use Rattle.facet_format.specs.Event as event
use Rattle.facet_json_grammar.specs.Walk.{event_at, key_event, walk}
use Rattle.facet_json_grammar.specs.Future.{Stage, within, over}
use Rattle.facet_json_grammar.specs.Begun.{Begun, nothing, whole, in_list, in_object, ListBegun, begins_item, past_item, ObjectBegun, no_key, key_alone, begins_member, past_member, tokens_before}
use Rattle.facet_json_grammar.proofs.Spelling.TokenSuffixes.{IsSuffix, all, later, Spells-suffix}
use Rattle.facet_json_grammar.proofs.TreesOfParts.{list_meant, object_meant, item_meant, member_meant}
use Rattle.facet_json_grammar.specs.EventLaws.{BegunIsPrefix, PrefixIsBegun, EndsAmong}
use Rattle.facet_json_grammar.proofs.OwnTokens.{before-append, ends-first, ends-key, ends-join, spelled_by}
use Rattle.facet_json_grammar.proofs.ValueOrPrefix.{suffix-count}

-- ---- what completes a prefix

-- a token of this kind, somewhere
abbrev any_token : Kind → Token
any_token kind = record { kind = kind; span = span_at 0 0 }

module _ (buffer : List ℕ) where
  -- The prefix's tokens are these, in which its events end, and with some after them they spell a value with a meaning.
  pub record Completed (ts rest : Tokens) (events : List Passed) : Type 0 where
    pub prefix : List Token
    pub back : List Token
    pub node : Node
    pub value : Tree
    pub here : ts ≡ tokens_before prefix rest
    pub anywhere : (other : Tokens) → Spells (tokens_before prefix (tokens_before back other)) node other
    pub has_tree : tree_of buffer node ≡ Some value
    pub ends : All (EndsAmong prefix) events

  pub record ListCompleted (ts rest : Tokens) (events : List Passed) : Type 0 where
    pub prefix : List Token
    pub back : List Token
    pub nodes : Nodes
    pub last : Token
    pub values : Trees
    pub here : ts ≡ tokens_before prefix rest
    pub anywhere : (other : Tokens) → SpellsItems (tokens_before prefix (tokens_before back other)) nodes last other
    pub has_trees : trees_of buffer nodes ≡ Some values
    pub ends : All (EndsAmong prefix) events

  pub record ObjectCompleted (ts rest : Tokens) (events : List Passed) : Type 0 where
    pub prefix : List Token
    pub back : List Token
    pub members : Members
    pub last : Token
    pub values : Pairs
    pub here : ts ≡ tokens_before prefix rest
    pub anywhere : (other : Tokens) → SpellsMembers (tokens_before prefix (tokens_before back other)) members last other
    pub has_pairs : pairs_of buffer members ≡ Some values
    pub ends : All (EndsAmong prefix) events

  -- Nothing is completed by a null.
  null_completes : (ts : Tokens) → Completed ts ts []
  unfolding tree_of
  null_completes ts = record {
    prefix = [];
    back = any_token token.null ∷ [];
    node = scalar (any_token token.null);
    value = trees.null;
    here = refl;
    anywhere = λ other. one_token (any_token token.null) other refl;
    has_tree = refl;
    ends = All-nil (EndsAmong []);
  }

  -- An item is completed by what completes it and a closing bracket.
  item_completes : (ts rest : Tokens) (events : List Passed) → Completed ts rest events → ListCompleted ts rest events
  unfolding trees_of
  item_completes ts rest events c =
      let end = any_token token.array_end in
      let has = c.has_tree in
      record {
        prefix = c.prefix;
        back = c.back ++ end ∷ [];
        nodes = item c.node no_nodes;
        last = end;
        values = trees.tree c.value no_trees;
        here = c.here;
        anywhere = λ other. rw (before-append c.back (end ∷ []) other) (last_item (tokens_before c.prefix (tokens_before c.back (next end other))) other c.node end (c.anywhere (next end other)) refl);
        has_trees = rw has refl;
        ends = c.ends;
      }

  -- A member is completed by what completes its value and a closing brace.
  member_completes : (key mark : Token) (ts rest : Tokens) (name : List ℕ) (events : List Passed) → is_string key.kind ≡ true →
      text_in_tree (meaning buffer key) ≡ Some name → mark.kind ≡ token.colon → Completed ts rest events →
      ObjectCompleted (next key (next mark ts)) rest (key_event buffer key mark ∷ events)
  unfolding pairs_of
  member_completes key mark ts rest name events k n p c =
      let end = any_token token.object_end in
      let has = c.has_tree in
      record {
        prefix = key ∷ mark ∷ c.prefix;
        back = c.back ++ end ∷ [];
        members = member key mark c.node no_members;
        last = end;
        values = trees.pair name c.value no_pairs;
        here = ap (λ r. next key (next mark r)) c.here;
        anywhere = λ other. rw (before-append c.back (end ∷ []) other) (last_member (tokens_before c.prefix (tokens_before c.back (next end other))) other key mark c.node end k p (c.anywhere (next end other)) refl);
        has_pairs = rw (n, has) refl;
        ends = ends-key buffer key mark c.prefix events c.ends;
      }

  mutual
    unfolding tree_of null_completes member_completes

    -- A begun value is completed.
    pub begun-completes : {place : Place} {after here : Stage} {ts rest : Tokens} {events : List Passed} →
        Begun buffer place after ts events here rest → Completed ts rest events
    begun-completes (nothing place after ts) = null_completes ts
    begun-completes (whole place after ts rest node value s t) =
        let by = spelled_by buffer s in
        record {
          prefix = by.own;
          back = [];
          node = node;
          value = value;
          here = by.here;
          anywhere = by.anywhere;
          has_tree = t;
          ends = by.ends;
        }
    begun-completes (in_list place after here first inner rest events k b) =
        let c = list-completes b in
        let has = c.has_trees in
        record {
          prefix = first ∷ c.prefix;
          back = c.back;
          node = shapes.array first c.last c.nodes;
          value = trees.list c.values;
          here = ap (next first) c.here;
          anywhere = λ other. brackets first c.last (tokens_before c.prefix (tokens_before c.back other)) other c.nodes k (c.anywhere other);
          has_tree = rw has refl;
          ends = ends-first first c.prefix _ events c.ends;
        }
    begun-completes (in_object place after here first inner rest events k b) =
        let c = object-completes b in
        let has = c.has_pairs in
        record {
          prefix = first ∷ c.prefix;
          back = c.back;
          node = shapes.object first c.last c.members;
          value = trees.pairs c.values;
          here = ap (next first) c.here;
          anywhere = λ other. braces first c.last (tokens_before c.prefix (tokens_before c.back other)) other c.members k (c.anywhere other);
          has_tree = rw has refl;
          ends = ends-first first c.prefix _ events c.ends;
        }

    pub list-completes : {here : Stage} {ts rest : Tokens} {events : List Passed} → ListBegun buffer ts events here rest →
        ListCompleted ts rest events
    list-completes (begins_item ts rest events here b) = item_completes ts rest events (begun-completes b)
    list-completes (past_item ts others rest node value separator events total here s t k b a) =
        let by = spelled_by buffer s in
        let c = list-completes b in
        let has = c.has_trees in
        record {
          prefix = by.own ++ separator ∷ c.prefix;
          back = c.back;
          nodes = item node c.nodes;
          last = c.last;
          values = trees.tree value c.values;
          here = by.here ∙ ap (λ r. tokens_before by.own (next separator r)) c.here ∙ sym (before-append by.own (separator ∷ c.prefix) rest);
          anywhere = λ other. rw (before-append by.own (separator ∷ c.prefix) (tokens_before c.back other)) (item_and_comma (tokens_before by.own (next separator (tokens_before c.prefix (tokens_before c.back other)))) (tokens_before c.prefix (tokens_before c.back other)) other node c.nodes separator c.last (by.anywhere (next separator (tokens_before c.prefix (tokens_before c.back other)))) k (c.anywhere other));
          has_trees = rw (t, has) refl;
          ends = All-same (EndsAmong (by.own ++ separator ∷ c.prefix)) total (walk buffer node ++ events) a (ends-join by.own c.prefix separator (walk buffer node) events by.ends c.ends);
        }

    pub object-completes : {here : Stage} {ts rest : Tokens} {events : List Passed} → ObjectBegun buffer ts events here rest →
        ObjectCompleted ts rest events
    object-completes (no_key ts) =
        let end = any_token token.object_end in
        record {
          prefix = [];
          back = end ∷ [];
          members = no_members;
          last = end;
          values = no_pairs;
          here = refl;
          anywhere = λ other. ended_members end other refl;
          has_pairs = refl;
          ends = All-nil (EndsAmong []);
        }
    object-completes (key_alone key rest name k n) =
        let mark = any_token token.colon in
        let c = member_completes key mark rest rest name [] k n refl (null_completes rest) in
        let has = c.has_pairs in
        record {
          prefix = key ∷ [];
          back = mark ∷ c.back;
          members = c.members;
          last = c.last;
          values = c.values;
          here = refl;
          anywhere = c.anywhere;
          has_pairs = has;
          ends = All-nil (EndsAmong (key ∷ []));
        }
    object-completes (begins_member key mark ts rest name events here k n p b) =
        member_completes key mark ts rest name events k n p (begun-completes b)
    object-completes (past_member key mark ts others rest name node value separator events total here k n p s t q b a) =
        let by = spelled_by buffer s in
        let c = object-completes b in
        let has = c.has_pairs in
        record {
          prefix = key ∷ mark ∷ by.own ++ separator ∷ c.prefix;
          back = c.back;
          members = member key mark node c.members;
          last = c.last;
          values = trees.pair name value c.values;
          here = ap (λ r. next key (next mark r)) (by.here ∙ ap (λ r. tokens_before by.own (next separator r)) c.here ∙ sym (before-append by.own (separator ∷ c.prefix) rest));
          anywhere = λ other. rw (before-append by.own (separator ∷ c.prefix) (tokens_before c.back other)) (member_and_comma (tokens_before by.own (next separator (tokens_before c.prefix (tokens_before c.back other)))) (tokens_before c.prefix (tokens_before c.back other)) other key mark node c.members separator c.last k p (by.anywhere (next separator (tokens_before c.prefix (tokens_before c.back other)))) q (c.anywhere other));
          has_pairs = rw (n, t, has) refl;
          ends = All-same (EndsAmong (key ∷ mark ∷ by.own ++ separator ∷ c.prefix)) total (key_event buffer key mark ∷ walk buffer node ++ events) a (ends-key buffer key mark (by.own ++ separator ∷ c.prefix) (walk buffer node ++ events) (ends-join by.own c.prefix separator (walk buffer node) events by.ends c.ends));
        }

-- ---- what begins a spelling

-- Two suffixes of the same tokens: one is a suffix of the other.
suffix-either : (a b c : Tokens) → IsSuffix a b → IsSuffix a c → IsSuffix b c ⊎ IsSuffix c b
suffix-either a _ c (all _) q = inl q
suffix-either _ b _ (later t ts _ p) (all _) = inr (later t ts b p)
suffix-either _ b c (later t ts _ p) (later _ _ _ q) = suffix-either ts b c p q

-- Tokens that are suffixes of one another are the same.
suffix-same : (a b : Tokens) → IsSuffix a b → IsSuffix b a → a ≡ b
suffix-same a _ (all _) q = refl
suffix-same _ b (later t ts _ p) q = absurd (omega (arith, suffix-count ts b p, suffix-count b (next t ts) q))

suffix-split : (t : Token) (ts mid : Tokens) → IsSuffix (next t ts) mid → IsSuffix mid (next t ts) ⊎ IsSuffix ts mid
suffix-split t ts _ (all _) = inl (all (next t ts))
suffix-split t ts mid (later _ _ _ p) = inr p

join_split : (t : Token) (ts mid : Tokens) → IsSuffix mid (next t ts) ⊎ IsSuffix (next t ts) mid →
    IsSuffix mid (next t ts) ⊎ IsSuffix ts mid
join_split t ts mid (inl p) = inl p
join_split t ts mid (inr p) = suffix-split t ts mid p

-- A suffix stands before what follows a value, or after the token that follows it.
where_in : (ts mid : Tokens) (t : Token) (others : Tokens) → IsSuffix ts mid → IsSuffix ts (next t others) →
    IsSuffix mid (next t others) ⊎ IsSuffix others mid
where_in ts mid t others a p = join_split t others mid (suffix-either ts mid (next t others) a p)

module _ (buffer : List ℕ) where
  -- A prefix of these tokens up to those begins a value.
  abbrev pub HasBegun : Place → Stage → Tokens → Tokens → Type 0
  HasBegun place after ts mid = (events : List Passed) × (here : Stage) × Begun buffer place after ts events here mid

  abbrev ListHasBegun : Tokens → Tokens → Type 0
  ListHasBegun ts mid = (events : List Passed) × (here : Stage) × ListBegun buffer ts events here mid

  abbrev ObjectHasBegun : Tokens → Tokens → Type 0
  ObjectHasBegun ts mid = (events : List Passed) × (here : Stage) × ObjectBegun buffer ts events here mid

  whole_here : (place : Place) (after : Stage) (ts rest mid : Tokens) (node : Node) (value : Tree) → Spells ts node rest →
      tree_of buffer node ≡ Some value → rest ≡ mid → HasBegun place after ts mid
  whole_here place after ts rest mid node value s t e =
      (walk buffer node, after, whole place after ts mid node value (subst (λ r. Spells ts node r) e s) t)

  list_begins : (place : Place) (after : Stage) (first : Token) (inner rest mid : Tokens) (node : Node) (value : Tree) →
      first.kind ≡ token.array_start → Spells (next first inner) node rest → tree_of buffer node ≡ Some value →
      (rest ≡ mid) ⊎ ListHasBegun inner mid → HasBegun place after (next first inner) mid
  list_begins place after first inner rest mid node value k s t (inl e) =
      whole_here place after (next first inner) rest mid node value s t e
  list_begins place after first inner rest mid node value k s t (inr b) =
      (event_at (event.sequence_start event.array) first ∷ b.0, b.1, in_list place after b.1 first inner mid b.0 k b.2)

  object_begins : (place : Place) (after : Stage) (first : Token) (inner rest mid : Tokens) (node : Node) (value : Tree) →
      first.kind ≡ token.object_start → Spells (next first inner) node rest → tree_of buffer node ≡ Some value →
      (rest ≡ mid) ⊎ ObjectHasBegun inner mid → HasBegun place after (next first inner) mid
  object_begins place after first inner rest mid node value k s t (inl e) =
      whole_here place after (next first inner) rest mid node value s t e
  object_begins place after first inner rest mid node value k s t (inr b) =
      (event_at (event.struct_start event.object) first ∷ b.0, b.1, in_object place after b.1 first inner mid b.0 k b.2)

  item_begins : (ts mid : Tokens) → HasBegun before_item (within after_item) ts mid → ListHasBegun ts mid
  item_begins ts mid b = (b.0, b.1, begins_item ts mid b.0 b.1 b.2)

  item_passed : (ts others rest mid : Tokens) (node : Node) (value : Tree) (separator : Token) →
      Spells ts node (next separator others) → tree_of buffer node ≡ Some value → separator.kind ≡ token.comma →
      (rest ≡ mid) ⊎ ListHasBegun others mid → (rest ≡ mid) ⊎ ListHasBegun ts mid
  item_passed ts others rest mid node value separator s t k (inl e) = inl e
  item_passed ts others rest mid node value separator s t k (inr b) =
      inr (walk buffer node ++ b.0, b.1, past_item ts others mid node value separator b.0 (walk buffer node ++ b.0) b.1 s t k b.2 refl)

  module _ (key mark : Token) (ts : Tokens) (name : List ℕ) (k : is_string key.kind ≡ true) (n : text_in_tree (meaning buffer key) ≡ Some name)
      (p : mark.kind ≡ token.colon) where
    member_value_begins : (mid : Tokens) → HasBegun after_colon (within after_member) ts mid → ObjectHasBegun (next key (next mark ts)) mid
    member_value_begins mid b = (key_event buffer key mark ∷ b.0, b.1, begins_member key mark ts mid name b.0 b.1 k n p b.2)

    member_passed : (others rest mid : Tokens) (node : Node) (value : Tree) (separator : Token) →
        Spells ts node (next separator others) → tree_of buffer node ≡ Some value → separator.kind ≡ token.comma →
        (rest ≡ mid) ⊎ ObjectHasBegun others mid → (rest ≡ mid) ⊎ ObjectHasBegun (next key (next mark ts)) mid
    member_passed others rest mid node value separator s t q (inl e) = inl e
    member_passed others rest mid node value separator s t q (inr b) =
        let total = key_event buffer key mark ∷ walk buffer node ++ b.0 in
        inr (total, b.1, past_member key mark ts others mid name node value separator b.0 total b.1 k n p s t q b.2 refl)

  mutual
    unfolding tree_of

    -- Each prefix of a spelling begins it.
    pub spelled-begins : {ts rest : Tokens} {node : Node} (value : Tree) (mid : Tokens) (place : Place) (after : Stage) →
        Spells ts node rest → tree_of buffer node ≡ Some value → IsSuffix ts mid → IsSuffix mid rest → HasBegun place after ts mid
    spelled-begins value _ place after (one_token t rest k) e (all _) b = ([], within place, nothing place after (next t rest))
    spelled-begins value mid place after (one_token t rest k) e (later _ _ _ a) b =
        whole_here place after (next t rest) rest mid (scalar t) value (one_token t rest k) e (suffix-same rest mid a b)
    spelled-begins value _ place after (brackets first last inner rest nodes k s) e (all _) b =
        ([], within place, nothing place after (next first inner))
    spelled-begins value mid place after (brackets first last inner rest nodes k s) e (later _ _ _ a) b =
        let values = list_meant (trees_of buffer nodes) value e in
        list_begins place after first inner rest mid (shapes.array first last nodes) value k (brackets first last inner rest nodes k s) e
        (items-begin values.0 mid s values.1 a b)
    spelled-begins value _ place after (braces first last inner rest ms k s) e (all _) b =
        ([], within place, nothing place after (next first inner))
    spelled-begins value mid place after (braces first last inner rest ms k s) e (later _ _ _ a) b =
        let values = object_meant (pairs_of buffer ms) value e in
        object_begins place after first inner rest mid (shapes.object first last ms) value k (braces first last inner rest ms k s) e
        (members-begin values.0 mid s values.1 a b)

    items-begin : {ts rest : Tokens} {nodes : Nodes} {last : Token} (values : Trees) (mid : Tokens) → SpellsItems ts nodes last rest →
        trees_of buffer nodes ≡ Some values → IsSuffix ts mid → IsSuffix mid rest → (rest ≡ mid) ⊎ ListHasBegun ts mid
    items-begin values _ (closed last rest k) e (all _) b =
        inr (item_begins (next last rest) (next last rest) ([], within before_item, nothing before_item (within after_item) (next last rest)))
    items-begin values mid (closed last rest k) e (later _ _ _ a) b = inl (suffix-same rest mid a b)
    items-begin values mid (item_and_comma ts others rest node nodes separator last s k more) e a b =
        let has = item_meant buffer node nodes values e in
        elim (where_in ts mid separator others a (Spells-suffix ts node (next separator others) s)) [
          | inl q ↦ inr (item_begins ts mid (spelled-begins has.0 mid before_item (within after_item) s has.2 a q))
          | inr q ↦ item_passed ts others rest mid node has.0 separator s has.2 k (items-begin has.1 mid more has.3 q b)
        ]
    items-begin values mid (last_item ts rest node last s k) e a b =
        let has = item_meant buffer node no_nodes values e in
        elim (where_in ts mid last rest a (Spells-suffix ts node (next last rest) s)) [
          | inl q ↦ inr (item_begins ts mid (spelled-begins has.0 mid before_item (within after_item) s has.2 a q))
          | inr q ↦ inl (suffix-same rest mid q b)
        ]

    members-begin : {ts rest : Tokens} {members : Members} {last : Token} (values : Pairs) (mid : Tokens) →
        SpellsMembers ts members last rest → pairs_of buffer members ≡ Some values → IsSuffix ts mid → IsSuffix mid rest →
        (rest ≡ mid) ⊎ ObjectHasBegun ts mid
    members-begin values _ (ended_members last rest k) e (all _) b = inr ([], within before_key, no_key (next last rest))
    members-begin values mid (ended_members last rest k) e (later _ _ _ a) b = inl (suffix-same rest mid a b)
    members-begin values _ (member_and_comma ts others rest key mark node ms separator last i c s k more) e (all _) b =
        inr ([], within before_key, no_key (next key (next mark ts)))
    members-begin values _ (member_and_comma ts others rest key mark node ms separator last i c s k more) e (later _ _ _ (all _)) b =
        let has = member_meant buffer key mark node ms values e in
        inr ([], within after_key, key_alone key (next mark ts) has.0 i has.3)
    members-begin values mid (member_and_comma ts others rest key mark node ms separator last i c s k more) e (later _ _ _ (later _ _ _ a)) b =
        let has = member_meant buffer key mark node ms values e in
        elim (where_in ts mid separator others a (Spells-suffix ts node (next separator others) s)) [
          | inl q ↦ inr (member_value_begins key mark ts has.0 i has.3 c mid (spelled-begins has.1 mid after_colon (within after_member) s has.4 a q))
          | inr q ↦ member_passed key mark ts has.0 i has.3 c others rest mid node has.1 separator s has.4 k (members-begin has.2 mid more has.5 q b)
        ]
    members-begin values _ (last_member ts rest key mark node last i c s k) e (all _) b =
        inr ([], within before_key, no_key (next key (next mark ts)))
    members-begin values _ (last_member ts rest key mark node last i c s k) e (later _ _ _ (all _)) b =
        let has = member_meant buffer key mark node no_members values e in
        inr ([], within after_key, key_alone key (next mark ts) has.0 i has.3)
    members-begin values mid (last_member ts rest key mark node last i c s k) e (later _ _ _ (later _ _ _ a)) b =
        let has = member_meant buffer key mark node no_members values e in
        elim (where_in ts mid last rest a (Spells-suffix ts node (next last rest) s)) [
          | inl q ↦ inr (member_value_begins key mark ts has.0 i has.3 c mid (spelled-begins has.1 mid after_colon (within after_member) s has.4 a q))
          | inr q ↦ inl (suffix-same rest mid q b)
        ]

-- ---- the laws

-- What begins a document is a prefix of the spelling of some value.
pub begun_is_prefix : BegunIsPrefix
begun_is_prefix buffer ts rest events here b =
    let c = begun-completes buffer b in
    (c.prefix, c.back, c.node, c.value, c.here, c.anywhere, c.has_tree)

-- Tokens stand before their rest.
pub before-suffix : (prefix : List Token) (rest : Tokens) → IsSuffix (tokens_before prefix rest) rest
before-suffix [] rest = all rest
before-suffix (t ∷ prefix) rest = later t (tokens_before prefix rest) rest (before-suffix prefix rest)

-- A prefix of the spelling of a value begins a document.
pub prefix_is_begun : PrefixIsBegun
prefix_is_begun buffer prefix back other node value s t =
    spelled-begins buffer value (tokens_before back other) root over s t (before-suffix prefix (tokens_before back other)) (before-suffix back other)
