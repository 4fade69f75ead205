-- From a place on where a value may stand either a whole value stands, or the longest prefix of one, and then no event comes any more.
use Rattle.std.proofs.Common.{◌≡◌, ℕ, zero, suc, ◌+◌, ◌*◌, ◌≤◌, Bool, true, false, ◌&&◌, List, [], ◌∷◌, ◌++◌, Option, Some, None, refl, sym, ap, ◌∙◌, arith}
use Rattle.std.specs.Prelude.{ℕ, List, is_none}
use Rattle.std.specs.Option.{option_map}
use Rattle.facet_json_token.specs.Token.{Kind, Token}
use Rattle.facet_json_token.specs.Token as token
use Rattle.facet_json_token.specs.Tokens.{Tokens, ended, refused, next}
use Rattle.facet_json_grammar.specs.Language.{lenient_rules}
use Rattle.facet_json_grammar.specs.Node.{Node, scalar, Nodes, no_nodes, item, Members, no_members, member, is_scalar, is_string, Spells, one_token, brackets, braces, SpellsItems, closed, item_and_comma, last_item, SpellsMembers, ended_members, member_and_comma, last_member}
use Rattle.facet_json_grammar.specs.Node as shapes
use Rattle.facet_json_grammar.specs.Tree.{Tree, Trees, no_trees, Pairs, no_pairs}
use Rattle.facet_json_grammar.specs.Tree as trees
use Rattle.facet_json_grammar.specs.Meaning.{tree_of, trees_of, pairs_of, text_in_tree, meaning, meaning_of}
use Rattle.facet_json_grammar.specs.Order.{count}
use Rattle.facet_json_grammar.specs.Place.{Place, root, before_key, after_key, after_colon, after_member, before_item, after_item, stops, names, value_turn, place_turn, goes_on}
use Rattle.facet_json_grammar.specs.Refusal.{needs_meaning}
use Rattle.facet_format.specs.Event.{ContainerKind, object, array, Passed}
use Rattle.facet_format.specs.Event as event
use Rattle.facet_json_grammar.specs.Walk.{event_at, key_event, walk}
use Rattle.facet_json_grammar.specs.Future.{Future, gives, stuck, events_before, within, after_value, is_meaningless, reads, reads_colon}
use Rattle.facet_json_grammar.specs.Begun.{Begun, nothing, whole, in_list, in_object, ListBegun, begins_item, past_item, ObjectBegun, no_key, key_alone, begins_member, past_member}
use Rattle.facet_json_grammar.proofs.Spelling.TokenSuffixes.{IsSuffix, all, later, Spells-suffix}
use Rattle.facet_json_grammar.proofs.WalkComes.{TakesValue, at_root, of_member, of_list, events_before-append, reads-turn, reads-array, reads-object, reads-item_comma, reads-member_comma, reads-key, walk-comes, turn-sensible, reads-meaningless, reads-stops, reads-ended, reads-refused, colon-ended, colon-refused, colon-missing}

-- ---- meanings

-- whether the token is a string or number without a meaning
pub data Sense (buffer : List ℕ) (t : Token) : Type 0 where
  without : is_meaningless buffer t ≡ true → Sense buffer t
  sensible : is_meaningless buffer t ≡ false → Sense buffer t

sense_by : (buffer : List ℕ) (t : Token) (b : Bool) → is_meaningless buffer t ≡ b → Sense buffer t
sense_by buffer t true e = without e
sense_by buffer t false e = sensible e

pub sense : (buffer : List ℕ) (t : Token) → Sense buffer t
sense buffer t = sense_by buffer t (is_meaningless buffer t) refl

some_by : (o : Option Tree) → is_none o ≡ false → (value : Tree) × (o ≡ Some value)
some_by (Some value) e = (value, refl)
some_by None e = cc

-- A scalar that is not without meaning has one.
scalar_meant : (buffer : List ℕ) (kind : Kind) → is_scalar kind ≡ true → needs_meaning kind && is_none (meaning_of buffer kind) ≡ false →
    (value : Tree) × (meaning_of buffer kind ≡ Some value)
scalar_meant buffer token.null k e = (_, refl)
scalar_meant buffer token.true_literal k e = (_, refl)
scalar_meant buffer token.false_literal k e = (_, refl)
scalar_meant buffer (token.string start finish has_escapes) k e = some_by _ e
scalar_meant buffer (token.number start finish hint) k e = some_by _ e
scalar_meant buffer _ k e = cc

text_meant : (o : Option (List ℕ)) → is_none (option_map trees.text o) ≡ false →
    (name : List ℕ) × (text_in_tree (option_map trees.text o) ≡ Some name)
text_meant (Some name) e = (name, refl)
text_meant None e = cc

-- A string that is not without meaning has a text.
name_meant : (buffer : List ℕ) (kind : Kind) → is_string kind ≡ true → needs_meaning kind && is_none (meaning_of buffer kind) ≡ false →
    (name : List ℕ) × (text_in_tree (meaning_of buffer kind) ≡ Some name)
name_meant buffer (token.string start finish has_escapes) k e = text_meant _ e
name_meant buffer _ k e = cc

-- ---- what a token is

-- what a token of this kind is where a value may stand
data AsValue (kind : Kind) : Type 0 where
  opens_list : kind ≡ token.array_start → AsValue kind
  opens_object : kind ≡ token.object_start → AsValue kind
  is_one : is_scalar kind ≡ true → AsValue kind
  no_value : value_turn kind ≡ stops → AsValue kind

as_value : (kind : Kind) → AsValue kind
as_value token.array_start = opens_list refl
as_value token.object_start = opens_object refl
as_value token.null = is_one refl
as_value token.true_literal = is_one refl
as_value token.false_literal = is_one refl
as_value (token.string start finish has_escapes) = is_one refl
as_value (token.number start finish hint) = is_one refl
as_value _ = no_value refl

-- the same before an item
data AsItem (kind : Kind) : Type 0 where
  closes_list : kind ≡ token.array_end → AsItem kind
  as_any : place_turn before_item kind ≡ value_turn kind → AsItem kind

as_item : (kind : Kind) → AsItem kind
as_item token.array_end = closes_list refl
as_item _ = as_any refl

-- the same after an item
data AfterItem (kind : Kind) : Type 0 where
  comma_item : kind ≡ token.comma → AfterItem kind
  ends_list : kind ≡ token.array_end → AfterItem kind
  no_comma : place_turn after_item kind ≡ stops → AfterItem kind

behind_an_item : (kind : Kind) → AfterItem kind
behind_an_item token.comma = comma_item refl
behind_an_item token.array_end = ends_list refl
behind_an_item _ = no_comma refl

-- the same before a key
data AsKey (kind : Kind) : Type 0 where
  closes_object : kind ≡ token.object_end → AsKey kind
  is_key : is_string kind ≡ true → place_turn before_key kind ≡ names → AsKey kind
  no_key_here : place_turn before_key kind ≡ stops → AsKey kind

as_key : (kind : Kind) → AsKey kind
as_key token.object_end = closes_object refl
as_key (token.string start finish has_escapes) = is_key refl refl
as_key _ = no_key_here refl

-- the same after a member
data AfterMember (kind : Kind) : Type 0 where
  comma_member : kind ≡ token.comma → AfterMember kind
  ends_object : kind ≡ token.object_end → AfterMember kind
  no_comma_here : place_turn after_member kind ≡ stops → AfterMember kind

behind_a_member : (kind : Kind) → AfterMember kind
behind_a_member token.comma = comma_member refl
behind_a_member token.object_end = ends_object refl
behind_a_member _ = no_comma_here refl

-- the same after a key
data AsColon (kind : Kind) : Type 0 where
  is_mark : kind ≡ token.colon → AsColon kind
  no_mark : goes_on after_key kind ≡ false → AsColon kind

as_colon : (kind : Kind) → AsColon kind
as_colon token.colon = is_mark refl
as_colon _ = no_mark refl

-- ---- outcomes

-- What stands at the start of the tokens where a value may stand: a whole value, or a prefix of one that gives these events.
pub data ValueComes (buffer : List ℕ) (stack : List ContainerKind) (place : Place) (ts : Tokens) : Type 0 where
  value_stands : (rest : Tokens) (node : Node) (value : Tree) → Spells ts node rest → tree_of buffer node ≡ Some value →
      ValueComes buffer stack place ts
  value_stops : (events : List Passed) (here : Place) (rest : Tokens) →
      Begun buffer place (after_value stack) ts events (within here) rest →
      reads buffer stack (within place) ts ≡ events_before events (stuck here rest) → ValueComes buffer stack place ts

-- the same after a bracket or a comma of a list
pub data ItemsCome (buffer : List ℕ) (stack : List ContainerKind) (ts : Tokens) : Type 0 where
  items_stand : (rest : Tokens) (nodes : Nodes) (last : Token) (values : Trees) → SpellsItems ts nodes last rest →
      trees_of buffer nodes ≡ Some values → ItemsCome buffer stack ts
  items_stop : (events : List Passed) (here : Place) (rest : Tokens) → ListBegun buffer ts events (within here) rest →
      reads buffer (array ∷ stack) (within before_item) ts ≡ events_before events (stuck here rest) → ItemsCome buffer stack ts

-- the same after a brace or a comma of an object
pub data MembersCome (buffer : List ℕ) (stack : List ContainerKind) (ts : Tokens) : Type 0 where
  members_stand : (rest : Tokens) (members : Members) (last : Token) (values : Pairs) →
      SpellsMembers ts members last rest → pairs_of buffer members ≡ Some values → MembersCome buffer stack ts
  members_stop : (events : List Passed) (here : Place) (rest : Tokens) → ObjectBegun buffer ts events (within here) rest →
      reads buffer (object ∷ stack) (within before_key) ts ≡ events_before events (stuck here rest) → MembersCome buffer stack ts

-- A suffix has no more tokens.
pub suffix-count : (a b : Tokens) → IsSuffix a b → count b ≤ count a
suffix-count a _ (all _) = omega arith
suffix-count _ b (later t ts _ p) = omega (arith, suffix-count ts b p)

module _ (buffer : List ℕ) where
  -- ---- a value by its first token

  stops_here : (stack : List ContainerKind) (place : Place) (ts : Tokens) →
      reads buffer stack (within place) ts ≡ stuck place ts → ValueComes buffer stack place ts
  stops_here stack place ts e = value_stops [] place ts (nothing place (after_value stack) ts) e

  -- One token.
  one_stands : (stack : List ContainerKind) (place : Place) (t : Token) (rest : Tokens) → is_scalar t.kind ≡ true →
      is_meaningless buffer t ≡ false → ValueComes buffer stack place (next t rest)
  unfolding tree_of
  one_stands stack place t rest k e =
      let meant = scalar_meant buffer t.kind k e in
      value_stands rest (scalar t) meant.0 (one_token t rest k) meant.1

  -- A list, by what stands after its bracket.
  list_stands : (stack : List ContainerKind) (place : Place) (t : Token) (rest : Tokens) → TakesValue place →
      t.kind ≡ token.array_start → ItemsCome buffer stack rest → ValueComes buffer stack place (next t rest)
  unfolding tree_of
  list_stands stack place t rest at k (items_stand after nodes last values s e) =
      value_stands after (shapes.array t last nodes) (trees.list values) (brackets t last rest after nodes k s) (rw e refl)
  list_stands stack place t rest at k (items_stop events here left b e) =
      let start = event_at (event.sequence_start array) t in
      value_stops (start ∷ events) here left (in_list place (after_value stack) (within here) t rest left events k b)
      (reads-array lenient_rules buffer stack place t rest at k ∙ ap (gives start) e)

  -- An object, by what stands after its brace.
  object_stands : (stack : List ContainerKind) (place : Place) (t : Token) (rest : Tokens) → TakesValue place →
      t.kind ≡ token.object_start → MembersCome buffer stack rest → ValueComes buffer stack place (next t rest)
  unfolding tree_of
  object_stands stack place t rest at k (members_stand after members last values s e) =
      value_stands after (shapes.object t last members) (trees.pairs values) (braces t last rest after members k s) (rw e refl)
  object_stands stack place t rest at k (members_stop events here left b e) =
      let start = event_at (event.struct_start object) t in
      value_stops (start ∷ events) here left (in_object place (after_value stack) (within here) t rest left events k b)
      (reads-object lenient_rules buffer stack place t rest at k ∙ ap (gives start) e)

  -- ---- items

  -- No item, since nothing goes on there.
  list_stops : (stack : List ContainerKind) (ts : Tokens) → reads buffer (array ∷ stack) (within before_item) ts ≡ stuck before_item ts → ItemsCome buffer stack ts
  list_stops stack ts e =
      items_stop [] before_item ts (begins_item ts ts [] (within before_item) (nothing before_item (within after_item) ts)) e

  -- An item, and nothing goes on after it.
  item_stops : (stack : List ContainerKind) (ts rest : Tokens) (node : Node) (value : Tree) → Spells ts node rest →
      tree_of buffer node ≡ Some value → reads buffer (array ∷ stack) (within after_item) rest ≡ stuck after_item rest → ItemsCome buffer stack ts
  item_stops stack ts rest node value s t e =
      let begun = whole before_item (within after_item) ts rest node value s t in
      items_stop (walk buffer node) after_item rest (begins_item ts rest (walk buffer node) (within after_item) begun)
      (walk-comes buffer value s t (array ∷ stack) before_item of_list ∙ ap (events_before (walk buffer node)) e)

  -- An item and its comma, and what stands after that.
  item_goes_on : (stack : List ContainerKind) (ts others : Tokens) (node : Node) (value : Tree) (separator : Token) →
      Spells ts node (next separator others) → tree_of buffer node ≡ Some value → separator.kind ≡ token.comma →
      ItemsCome buffer stack others → ItemsCome buffer stack ts
  unfolding trees_of
  item_goes_on stack ts others node value separator s t k (items_stand rest nodes last values more e) =
      items_stand rest (item node nodes) last (trees.tree value values)
      (item_and_comma ts others rest node nodes separator last s k more) (rw (t, e) refl)
  item_goes_on stack ts others node value separator s t k (items_stop events here rest b e) =
      items_stop (walk buffer node ++ events) here rest
      (past_item ts others rest node value separator events (walk buffer node ++ events) (within here) s t k b refl)
      (walk-comes buffer value s t (array ∷ stack) before_item of_list
      ∙ ap (events_before (walk buffer node)) (reads-item_comma lenient_rules buffer (array ∷ stack) separator others k ∙ e)
      ∙ sym (events_before-append (walk buffer node) events (stuck here rest)))

  -- The last item, and the closing bracket.
  item_ends : (stack : List ContainerKind) (ts rest : Tokens) (node : Node) (value : Tree) (last : Token) →
      Spells ts node (next last rest) → tree_of buffer node ≡ Some value → last.kind ≡ token.array_end → ItemsCome buffer stack ts
  unfolding trees_of
  item_ends stack ts rest node value last s t k =
      items_stand rest (item node no_nodes) last (trees.tree value no_trees) (last_item ts rest node last s k) (rw t refl)

  -- No item, and the closing bracket.
  list_ends : (stack : List ContainerKind) (last : Token) (rest : Tokens) → last.kind ≡ token.array_end →
      ItemsCome buffer stack (next last rest)
  unfolding trees_of
  list_ends stack last rest k = items_stand rest no_nodes last no_trees (closed last rest k) refl

  -- ---- members

  -- No key, since nothing goes on there.
  object_stops : (stack : List ContainerKind) (ts : Tokens) → reads buffer (object ∷ stack) (within before_key) ts ≡ stuck before_key ts → MembersCome buffer stack ts
  object_stops stack ts e = members_stop [] before_key ts (no_key ts) e

  -- No key, and the closing brace.
  object_ends : (stack : List ContainerKind) (last : Token) (rest : Tokens) → last.kind ≡ token.object_end →
      MembersCome buffer stack (next last rest)
  unfolding pairs_of
  object_ends stack last rest k = members_stand rest no_members last no_pairs (ended_members last rest k) refl

  -- A key, and no colon after it.
  key_stops : (stack : List ContainerKind) (key : Token) (rest : Tokens) (name : List ℕ) → is_string key.kind ≡ true →
      text_in_tree (meaning buffer key) ≡ Some name → reads buffer (object ∷ stack) (within before_key) (next key rest) ≡ stuck after_key rest →
      MembersCome buffer stack (next key rest)
  key_stops stack key rest name k n e = members_stop [] after_key rest (key_alone key rest name k n) e

  module _ (stack : List ContainerKind) (key mark : Token) (ts : Tokens) (name : List ℕ) (k : is_string key.kind ≡ true)
      (n : text_in_tree (meaning buffer key) ≡ Some name) (c : mark.kind ≡ token.colon) where
    -- A key, its colon and what comes after them.
    key-comes : (future : Future) → reads buffer (object ∷ stack) (within after_colon) ts ≡ future →
        reads buffer (object ∷ stack) (within before_key) (next key (next mark ts)) ≡ gives (key_event buffer key mark) future
    key-comes future e = reads-key lenient_rules buffer (object ∷ stack) key mark ts name k n c ∙ ap (gives (key_event buffer key mark)) e

    -- A prefix of a member's value.
    member_begins : (events : List Passed) (here : Place) (rest : Tokens) →
        Begun buffer after_colon (within after_member) ts events (within here) rest →
        reads buffer (object ∷ stack) (within after_colon) ts ≡ events_before events (stuck here rest) →
        MembersCome buffer stack (next key (next mark ts))
    member_begins events here rest b e =
        members_stop (key_event buffer key mark ∷ events) here rest
        (begins_member key mark ts rest name events (within here) k n c b) (key-comes (events_before events (stuck here rest)) e)

    module _ (rest : Tokens) (node : Node) (value : Tree) (s : Spells ts node rest) (t : tree_of buffer node ≡ Some value) where
      -- A member, and nothing goes on after it.
      member_stops : reads buffer (object ∷ stack) (within after_member) rest ≡ stuck after_member rest →
          MembersCome buffer stack (next key (next mark ts))
      member_stops e =
          member_begins (walk buffer node) after_member rest (whole after_colon (within after_member) ts rest node value s t)
          (walk-comes buffer value s t (object ∷ stack) after_colon of_member ∙ ap (events_before (walk buffer node)) e)

    -- A member and its comma, and what stands after that.
    member_goes_on : (others : Tokens) (node : Node) (value : Tree) (separator : Token) →
        Spells ts node (next separator others) → tree_of buffer node ≡ Some value → separator.kind ≡ token.comma →
        MembersCome buffer stack others → MembersCome buffer stack (next key (next mark ts))
    unfolding pairs_of
    member_goes_on others node value separator s t p (members_stand rest members last values more e) =
        members_stand rest (member key mark node members) last (trees.pair name value values)
        (member_and_comma ts others rest key mark node members separator last k c s p more) (rw (n, t, e) refl)
    member_goes_on others node value separator s t p (members_stop events here rest b e) =
        let all = key_event buffer key mark ∷ walk buffer node ++ events in
        members_stop all here rest
        (past_member key mark ts others rest name node value separator events all (within here) k n c s t p b refl)
        (key-comes (events_before (walk buffer node ++ events) (stuck here rest))
        (walk-comes buffer value s t (object ∷ stack) after_colon of_member
        ∙ ap (events_before (walk buffer node)) (reads-member_comma lenient_rules buffer (object ∷ stack) separator others p ∙ e)
        ∙ sym (events_before-append (walk buffer node) events (stuck here rest))))

    -- The last member, and the closing brace.
    member_ends : (rest : Tokens) (node : Node) (value : Tree) (last : Token) → Spells ts node (next last rest) →
        tree_of buffer node ≡ Some value → last.kind ≡ token.object_end → MembersCome buffer stack (next key (next mark ts))
    unfolding pairs_of
    member_ends rest node value last s t p =
        members_stand rest (member key mark node no_members) last (trees.pair name value no_pairs)
        (last_member ts rest key mark node last k c s p) (rw (n, t) refl)

  -- ---- all tokens

  -- What stands after a value and the next token has fewer.
  spelled-fewer : (ts others : Tokens) (node : Node) (t : Token) → Spells ts node (next t others) → suc (count others) ≤ count ts
  spelled-fewer ts others node t s = suffix-count ts (next t others) (Spells-suffix ts node (next t others) s)

  mutual
    value_out : (n : ℕ) (stack : List ContainerKind) (place : Place) (t : Token) (rest : Tokens) → TakesValue place →
        place_turn place t.kind ≡ value_turn t.kind → 2 * suc (count rest) ≤ n → ValueComes buffer stack place (next t rest)
    value_out zero stack place t rest at j h = absurd (omega arith)
    value_out (suc n) stack place t rest at j h = elim (sense buffer t) [
      | without e ↦ stops_here stack place (next t rest) (reads-meaningless lenient_rules buffer stack place t rest e)
      | sensible e ↦ elim (as_value t.kind) [
        | opens_list k ↦ list_stands stack place t rest at k (items_out n stack rest (omega arith))
        | opens_object k ↦ object_stands stack place t rest at k (members_out n stack rest (omega arith))
        | is_one k ↦ one_stands stack place t rest k e
        | no_value k ↦ stops_here stack place (next t rest) (reads-stops lenient_rules buffer stack place t rest e (j ∙ k))
      ]
    ]

    value_at : (n : ℕ) (stack : List ContainerKind) (place : Place) (ts : Tokens) → TakesValue place →
        ((kind : Kind) → place_turn place kind ≡ value_turn kind) → 2 * count ts + 1 ≤ n → ValueComes buffer stack place ts
    value_at zero stack place ts at j h = absurd (omega arith)
    value_at (suc n) stack place ended at j h = stops_here stack place ended (reads-ended lenient_rules buffer stack place)
    value_at (suc n) stack place (refused f) at j h = stops_here stack place (refused f) (reads-refused lenient_rules buffer stack place f)
    value_at (suc n) stack place (next t rest) at j h = value_out n stack place t rest at (j t.kind) (omega arith)

    items_out : (n : ℕ) (stack : List ContainerKind) (ts : Tokens) → 2 * count ts + 1 ≤ n → ItemsCome buffer stack ts
    items_out zero stack ts h = absurd (omega arith)
    items_out (suc n) stack ended h = list_stops stack ended (reads-ended lenient_rules buffer (array ∷ stack) before_item)
    items_out (suc n) stack (refused f) h = list_stops stack (refused f) (reads-refused lenient_rules buffer (array ∷ stack) before_item f)
    items_out (suc n) stack (next t rest) h = elim (sense buffer t) [
      | without e ↦ list_stops stack (next t rest) (reads-meaningless lenient_rules buffer (array ∷ stack) before_item t rest e)
      | sensible e ↦ elim (as_item t.kind) [
        | closes_list k ↦ list_ends stack t rest k
        | as_any j ↦ item_out n stack (next t rest) (value_out n (array ∷ stack) before_item t rest of_list j (omega arith)) (omega arith)
      ]
    ]

    item_out : (n : ℕ) (stack : List ContainerKind) (ts : Tokens) → ValueComes buffer (array ∷ stack) before_item ts →
        2 * count ts ≤ n → ItemsCome buffer stack ts
    item_out n stack ts (value_stops events here rest b e) h = items_stop events here rest (begins_item ts rest events (within here) b) e
    item_out n stack ts (value_stands ended node value s t) h =
        item_stops stack ts ended node value s t (reads-ended lenient_rules buffer (array ∷ stack) after_item)
    item_out n stack ts (value_stands (refused f) node value s t) h =
        item_stops stack ts (refused f) node value s t (reads-refused lenient_rules buffer (array ∷ stack) after_item f)
    item_out zero stack ts (value_stands (next u others) node value s t) h =
        absurd (omega (arith, spelled-fewer ts others node u s))
    item_out (suc n) stack ts (value_stands (next u others) node value s t) h = elim (sense buffer u) [
      | without e ↦ item_stops stack ts (next u others) node value s t (reads-meaningless lenient_rules buffer (array ∷ stack) after_item u others e)
      | sensible e ↦ elim (behind_an_item u.kind) [
        | comma_item k ↦ item_goes_on stack ts others node value u s t k (items_out n stack others (omega (arith, spelled-fewer ts others node u s)))
        | ends_list k ↦ item_ends stack ts others node value u s t k
        | no_comma k ↦ item_stops stack ts (next u others) node value s t (reads-stops lenient_rules buffer (array ∷ stack) after_item u others e k)
      ]
    ]

    members_out : (n : ℕ) (stack : List ContainerKind) (ts : Tokens) → 2 * count ts + 1 ≤ n → MembersCome buffer stack ts
    members_out zero stack ts h = absurd (omega arith)
    members_out (suc n) stack ended h = object_stops stack ended (reads-ended lenient_rules buffer (object ∷ stack) before_key)
    members_out (suc n) stack (refused f) h = object_stops stack (refused f) (reads-refused lenient_rules buffer (object ∷ stack) before_key f)
    members_out (suc n) stack (next t rest) h = elim (sense buffer t) [
      | without e ↦ object_stops stack (next t rest) (reads-meaningless lenient_rules buffer (object ∷ stack) before_key t rest e)
      | sensible e ↦ elim (as_key t.kind) [
        | closes_object k ↦ object_ends stack t rest k
        | is_key k j ↦ key_out n stack t rest (name_meant buffer t.kind k e).0 k (name_meant buffer t.kind k e).1 (reads-turn lenient_rules buffer (object ∷ stack) before_key t rest names (turn-sensible buffer before_key t e ∙ j)) (omega arith)
        | no_key_here k ↦ object_stops stack (next t rest) (reads-stops lenient_rules buffer (object ∷ stack) before_key t rest e k)
      ]
    ]

    key_out : (n : ℕ) (stack : List ContainerKind) (key : Token) (rest : Tokens) (name : List ℕ) → is_string key.kind ≡ true →
        text_in_tree (meaning buffer key) ≡ Some name →
        reads buffer (object ∷ stack) (within before_key) (next key rest) ≡ reads_colon buffer (object ∷ stack) key rest →
        2 * count rest + 2 ≤ n → MembersCome buffer stack (next key rest)
    key_out n stack key ended name k p e h = key_stops stack key ended name k p (e ∙ colon-ended lenient_rules buffer (object ∷ stack) key)
    key_out n stack key (refused f) name k p e h =
        key_stops stack key (refused f) name k p (e ∙ colon-refused lenient_rules buffer (object ∷ stack) key f)
    key_out zero stack key (next mark ts) name k p e h = absurd (omega arith)
    key_out (suc n) stack key (next mark ts) name k p e h = elim (as_colon mark.kind) [
      | is_mark c ↦ member_out n stack key mark ts name k p c (value_at n (object ∷ stack) after_colon ts of_member (λ kind. refl) (omega arith)) (omega arith)
      | no_mark c ↦ key_stops stack key (next mark ts) name k p (e ∙ colon-missing lenient_rules buffer (object ∷ stack) key mark ts c)
    ]

    member_out : (n : ℕ) (stack : List ContainerKind) (key mark : Token) (ts : Tokens) (name : List ℕ) →
        is_string key.kind ≡ true → text_in_tree (meaning buffer key) ≡ Some name → mark.kind ≡ token.colon →
        ValueComes buffer (object ∷ stack) after_colon ts → 2 * count ts ≤ n → MembersCome buffer stack (next key (next mark ts))
    member_out n stack key mark ts name k p c (value_stops events here rest b e) h =
        member_begins stack key mark ts name k p c events here rest b e
    member_out n stack key mark ts name k p c (value_stands ended node value s t) h =
        member_stops stack key mark ts name k p c ended node value s t (reads-ended lenient_rules buffer (object ∷ stack) after_member)
    member_out n stack key mark ts name k p c (value_stands (refused f) node value s t) h =
        member_stops stack key mark ts name k p c (refused f) node value s t (reads-refused lenient_rules buffer (object ∷ stack) after_member f)
    member_out zero stack key mark ts name k p c (value_stands (next u others) node value s t) h =
        absurd (omega (arith, spelled-fewer ts others node u s))
    member_out (suc n) stack key mark ts name k p c (value_stands (next u others) node value s t) h = elim (sense buffer u) [
      | without e ↦ member_stops stack key mark ts name k p c (next u others) node value s t (reads-meaningless lenient_rules buffer (object ∷ stack) after_member u others e)
      | sensible e ↦ elim (behind_a_member u.kind) [
        | comma_member q ↦ member_goes_on stack key mark ts name k p c others node value u s t q (members_out n stack others (omega (arith, spelled-fewer ts others node u s)))
        | ends_object q ↦ member_ends stack key mark ts name k p c others node value u s t q
        | no_comma_here q ↦ member_stops stack key mark ts name k p c (next u others) node value s t (reads-stops lenient_rules buffer (object ∷ stack) after_member u others e q)
      ]
    ]

  -- At the root either a whole value stands, or a prefix of one, and then nothing comes any more.
  pub root-comes : (ts : Tokens) → ValueComes buffer [] root ts
  root-comes ts = value_at (2 * count ts + 1) [] root ts at_root (λ kind. refl) (omega arith)
