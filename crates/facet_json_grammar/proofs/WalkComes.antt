-- What comes, token by token; and that from the start of a value on its walk comes.
use Rattle.std.specs.Prelude.{ℕ, List}
use Rattle.std.proofs.Common.{◌≡◌, ℕ, true, false, List, [], ◌∷◌, ◌++◌, Option, Some, None, refl, sym, ap, ◌∙◌}
use Rattle.std.proofs.Math.Bool.{and-false}
use Rattle.facet_json_token.specs.Token.{Kind, Token, Fault}
use Rattle.facet_json_token.specs.Token as token
use Rattle.facet_json_token.specs.Tokens.{Tokens, ended, refused, next}
use Rattle.facet_json_token.specs.TokenList.{tokens}
use Rattle.facet_json_grammar.specs.Node.{Node, Nodes, no_nodes, Members, no_members, is_scalar, is_string, Spells, one_token, brackets, braces, SpellsItems, closed, item_and_comma, last_item, SpellsMembers, ended_members, member_and_comma, last_member}
use Rattle.facet_json_grammar.specs.Tree.{Tree, Trees, Pairs}
use Rattle.facet_json_grammar.specs.Meaning.{tree_of, trees_of, pairs_of, text_in_tree, meaning}
use Rattle.facet_json_grammar.specs.Place.{Place, root, before_key, after_key, after_colon, after_member, before_item, after_item, next_key, next_item, Turn, stops, passes, says, says_scalar, names, place_turn, leads_on, goes_on, led}
use Rattle.facet_json_grammar.specs.Language.{Rules, lenient_rules, strict_rules}
use Rattle.facet_json_grammar.specs.Refusal.{needs_meaning}
use Rattle.facet_format.specs.Event.{ContainerKind, object, array, Passed}
use Rattle.facet_format.specs.Event as event
use Rattle.facet_json_grammar.specs.Walk.{event_at, scalar_event, key_event, walk, walk_items, walk_members}
use Rattle.facet_json_grammar.specs.Future.{Future, gives, stuck, events_before, within, after_value, stack_after, stage_after, is_meaningless, turn, reads, reads_by, reads_colon_by, finished}
use Rattle.facet_json_token.specs.Gap.{Mode}
use Rattle.facet_json_grammar.specs.Document.{IsDocument}
use Rattle.facet_json_grammar.specs.StrictDocument.{is_closing, begins_closing, AreStrict, one_more}
use Rattle.facet_json_grammar.proofs.Spelling.TokenSuffixes.{IsSuffix, all, later, Spells-suffix}
use Rattle.facet_json_grammar.specs.Place as place
use Rattle.facet_json_grammar.proofs.TreesOfParts.{list_meant, object_meant, item_meant, member_meant}

-- the places where a value may stand
pub data TakesValue : Place → Type 0 where
  at_root : TakesValue root
  of_member : TakesValue after_colon
  of_list : TakesValue before_item
  of_next_item : TakesValue next_item

-- the places where a key may stand
pub data TakesKey : Place → Type 0 where
  of_object : TakesKey before_key
  of_next_key : TakesKey next_key

-- Events after events.
pub events_before-append : (a b : List Passed) (f : Future) →
    events_before (a ++ b) f ≡ events_before a (events_before b f)
events_before-append [] b f = refl
events_before-append (p ∷ a) b f = ap (gives p) (events_before-append a b f)

-- Those that end alike are the same.
pub events_before-same : (a b : List Passed) → events_before a finished ≡ events_before b finished → a ≡ b
events_before-same [] [] e = refl
events_before-same [] (q ∷ b) e = cc
events_before-same (p ∷ a) [] e = cc
events_before-same (p ∷ a) (q ∷ b) e =
    let more : events_before a finished ≡ events_before b finished = cc in
    let rest = events_before-same a b more in cc

-- With a token with which no document goes on its turn is to stop.
pub nowhere-stops : (way : Turn) → leads_on way ≡ false → way ≡ stops
nowhere-stops stops e = refl
nowhere-stops _ e = cc

module _ (buffer : List ℕ) where
  -- ---- one token

  -- A token that needs no meaning is judged by its place.
  pub turn-plain : (place : Place) (t : Token) (kind : Kind) → t.kind ≡ kind → needs_meaning kind ≡ false →
      turn buffer place t ≡ place_turn place kind
  turn-plain place t kind e n = rw (e, n) refl

  -- So is one with a meaning.
  pub turn-meant : (place : Place) (t : Token) (value : Tree) → meaning buffer t ≡ Some value →
      turn buffer place t ≡ place_turn place t.kind
  turn-meant place t value e = rw (e, and-false) refl

  -- ---- where a value may stand

  -- A scalar gives its event at each of these places.
  pub scalar_here : (place : Place) (kind : Kind) → TakesValue place → is_scalar kind ≡ true → place_turn place kind ≡ says_scalar
  scalar_here _ token.object_start at e = cc
  scalar_here _ token.object_end at e = cc
  scalar_here _ token.array_start at e = cc
  scalar_here _ token.array_end at e = cc
  scalar_here _ token.colon at e = cc
  scalar_here _ token.comma at e = cc
  scalar_here _ _ at_root e = refl
  scalar_here _ _ of_member e = refl
  scalar_here _ _ of_list e = refl
  scalar_here _ _ of_next_item e = refl

  -- So does a bracket that opens a list.
  pub array_here : (place : Place) → TakesValue place → place_turn place token.array_start ≡ says (event.sequence_start array)
  array_here _ at_root = refl
  array_here _ of_member = refl
  array_here _ of_list = refl
  array_here _ of_next_item = refl

  -- So does one that opens an object.
  pub object_here : (place : Place) → TakesValue place → place_turn place token.object_start ≡ says (event.struct_start object)
  object_here _ at_root = refl
  object_here _ of_member = refl
  object_here _ of_list = refl
  object_here _ of_next_item = refl

  key_here : (place : Place) (kind : Kind) → TakesKey place → is_string kind ≡ true → place_turn place kind ≡ names
  key_here _ (token.string start finish has_escapes) of_object e = refl
  key_here _ (token.string start finish has_escapes) of_next_key e = refl
  key_here _ _ _ e = cc

  -- What has a text has a meaning.
  text_of-some : (o : Option Tree) (name : List ℕ) → text_in_tree o ≡ Some name → (value : Tree) × (o ≡ Some value)
  text_of-some None name e = cc
  text_of-some (Some value) name e = (value, refl)

  -- The turn of a token with a meaning is its place's.
  pub turn-sensible : (place : Place) (t : Token) → is_meaningless buffer t ≡ false →
      turn buffer place t ≡ place_turn place t.kind
  turn-sensible place t e = rw e refl

module _ (by : Rules) (buffer : List ℕ) where
  -- ---- one token

  -- what follows by the turn of a token
  abbrev pub follows : Place → Token → List ContainerKind → Tokens → Turn → Future
  follows place t stack rest stops = stuck place (next t rest)
  follows place t stack rest (passes other) = reads_by by buffer stack (within (led by other)) rest
  follows place t stack rest (says kind) =
      gives (event_at kind t) (reads_by by buffer (stack_after kind stack) (stage_after kind stack) rest)
  follows place t stack rest says_scalar = gives (scalar_event buffer t) (reads_by by buffer stack (after_value stack) rest)
  follows place t stack rest names = reads_colon_by by buffer stack t rest

  -- Where a token stands, its turn says what comes.
  pub reads-turn : (stack : List ContainerKind) (place : Place) (t : Token) (rest : Tokens) (way : Turn) →
      turn buffer place t ≡ way → reads_by by buffer stack (within place) (next t rest) ≡ follows place t stack rest way
  unfolding reads_by
  reads-turn stack place t rest stops e = rw (e, reads_by) refl
  reads-turn stack place t rest (passes other) e = rw (e, reads_by) refl
  reads-turn stack place t rest (says kind) e = rw (e, reads_by) refl
  reads-turn stack place t rest says_scalar e = rw (e, reads_by) refl
  reads-turn stack place t rest names e = rw (e, reads_by) refl

  -- ---- each token at its place

  -- A scalar with a meaning.
  pub reads-scalar : (stack : List ContainerKind) (place : Place) (t : Token) (rest : Tokens) (value : Tree) →
      TakesValue place → is_scalar t.kind ≡ true → meaning buffer t ≡ Some value →
      reads_by by buffer stack (within place) (next t rest) ≡ gives (scalar_event buffer t) (reads_by by buffer stack (after_value stack) rest)
  reads-scalar stack place t rest value at k e =
      reads-turn stack place t rest _ (turn-meant buffer place t value e ∙ scalar_here buffer place t.kind at k)

  -- A bracket that opens a list.
  pub reads-array : (stack : List ContainerKind) (place : Place) (t : Token) (rest : Tokens) → TakesValue place →
      t.kind ≡ token.array_start →
      reads_by by buffer stack (within place) (next t rest) ≡ gives (event_at (event.sequence_start array) t) (reads_by by buffer (array ∷ stack) (within before_item) rest)
  reads-array stack place t rest at k =
      reads-turn stack place t rest _ (turn-plain buffer place t _ k refl ∙ array_here buffer place at)

  -- A brace that opens an object.
  pub reads-object : (stack : List ContainerKind) (place : Place) (t : Token) (rest : Tokens) → TakesValue place →
      t.kind ≡ token.object_start →
      reads_by by buffer stack (within place) (next t rest) ≡ gives (event_at (event.struct_start object) t) (reads_by by buffer (object ∷ stack) (within before_key) rest)
  reads-object stack place t rest at k =
      reads-turn stack place t rest _ (turn-plain buffer place t _ k refl ∙ object_here buffer place at)

  -- A comma after an item gives nothing.
  pub reads-item_comma : (stack : List ContainerKind) (t : Token) (rest : Tokens) → t.kind ≡ token.comma →
      reads_by by buffer stack (within after_item) (next t rest) ≡ reads_by by buffer stack (within (led by before_item)) rest
  reads-item_comma stack t rest k = reads-turn stack after_item t rest _ (turn-plain buffer after_item t _ k refl)

  -- Nor does one after a member.
  pub reads-member_comma : (stack : List ContainerKind) (t : Token) (rest : Tokens) → t.kind ≡ token.comma →
      reads_by by buffer stack (within after_member) (next t rest) ≡ reads_by by buffer stack (within (led by before_key)) rest
  reads-member_comma stack t rest k =
      reads-turn stack after_member t rest _ (turn-plain buffer after_member t _ k refl)

  -- A bracket that closes a list, after an item.
  pub reads-item_end : (kind : ContainerKind) (stack : List ContainerKind) (t : Token) (rest : Tokens) →
      t.kind ≡ token.array_end →
      reads_by by buffer (kind ∷ stack) (within after_item) (next t rest) ≡ gives (event_at event.sequence_end t) (reads_by by buffer stack (after_value stack) rest)
  reads-item_end kind stack t rest k =
      reads-turn (kind ∷ stack) after_item t rest _ (turn-plain buffer after_item t _ k refl)

  -- The same before an item.
  pub reads-list_end : (kind : ContainerKind) (stack : List ContainerKind) (t : Token) (rest : Tokens) →
      t.kind ≡ token.array_end →
      reads_by by buffer (kind ∷ stack) (within before_item) (next t rest) ≡ gives (event_at event.sequence_end t) (reads_by by buffer stack (after_value stack) rest)
  reads-list_end kind stack t rest k =
      reads-turn (kind ∷ stack) before_item t rest _ (turn-plain buffer before_item t _ k refl)

  -- A brace that closes an object, after a member.
  pub reads-member_end : (kind : ContainerKind) (stack : List ContainerKind) (t : Token) (rest : Tokens) →
      t.kind ≡ token.object_end →
      reads_by by buffer (kind ∷ stack) (within after_member) (next t rest) ≡ gives (event_at event.struct_end t) (reads_by by buffer stack (after_value stack) rest)
  reads-member_end kind stack t rest k =
      reads-turn (kind ∷ stack) after_member t rest _ (turn-plain buffer after_member t _ k refl)

  -- The same before a key.
  pub reads-object_end : (kind : ContainerKind) (stack : List ContainerKind) (t : Token) (rest : Tokens) →
      t.kind ≡ token.object_end →
      reads_by by buffer (kind ∷ stack) (within before_key) (next t rest) ≡ gives (event_at event.struct_end t) (reads_by by buffer stack (after_value stack) rest)
  reads-object_end kind stack t rest k =
      reads-turn (kind ∷ stack) before_key t rest _ (turn-plain buffer before_key t _ k refl)

  -- A key: its colon has to follow.
  names_at : (stack : List ContainerKind) (place : Place) (key : Token) (rest : Tokens) (name : List ℕ) → TakesKey place →
      is_string key.kind ≡ true → text_in_tree (meaning buffer key) ≡ Some name →
      reads_by by buffer stack (within place) (next key rest) ≡ reads_colon_by by buffer stack key rest
  names_at stack place key rest name at k n =
      let meant = text_of-some buffer (meaning buffer key) name n in
      reads-turn stack place key rest names (turn-meant buffer place key meant.0 meant.1 ∙ key_here buffer place key.kind at k)

  pub reads-names : (stack : List ContainerKind) (key : Token) (rest : Tokens) (name : List ℕ) → is_string key.kind ≡ true →
      text_in_tree (meaning buffer key) ≡ Some name → reads_by by buffer stack (within before_key) (next key rest) ≡ reads_colon_by by buffer stack key rest
  reads-names stack key rest name k n = names_at stack before_key key rest name of_object k n

  -- A key and its colon.
  key_at : (stack : List ContainerKind) (place : Place) (key mark : Token) (rest : Tokens) (name : List ℕ) → TakesKey place →
      is_string key.kind ≡ true → text_in_tree (meaning buffer key) ≡ Some name → mark.kind ≡ token.colon →
      reads_by by buffer stack (within place) (next key (next mark rest)) ≡ gives (key_event buffer key mark) (reads_by by buffer stack (within after_colon) rest)
  unfolding reads_by
  key_at stack place key mark rest name at k n c = names_at stack place key (next mark rest) name at k n ∙ rw (c, reads_colon_by) refl

  pub reads-key : (stack : List ContainerKind) (key mark : Token) (rest : Tokens) (name : List ℕ) →
      is_string key.kind ≡ true → text_in_tree (meaning buffer key) ≡ Some name → mark.kind ≡ token.colon →
      reads_by by buffer stack (within before_key) (next key (next mark rest)) ≡ gives (key_event buffer key mark) (reads_by by buffer stack (within after_colon) rest)
  reads-key stack key mark rest name k n c = key_at stack before_key key mark rest name of_object k n c

  -- ---- tokens that are stuck

  -- A string or number without a meaning is stuck.
  pub reads-meaningless : (stack : List ContainerKind) (place : Place) (t : Token) (rest : Tokens) →
      is_meaningless buffer t ≡ true → reads_by by buffer stack (within place) (next t rest) ≡ stuck place (next t rest)
  reads-meaningless stack place t rest e = reads-turn stack place t rest stops (rw e refl)

  -- So is a token with which no document goes on at the place.
  pub reads-stops : (stack : List ContainerKind) (place : Place) (t : Token) (rest : Tokens) → is_meaningless buffer t ≡ false →
      place_turn place t.kind ≡ stops → reads_by by buffer stack (within place) (next t rest) ≡ stuck place (next t rest)
  reads-stops stack place t rest e k = reads-turn stack place t rest stops (turn-sensible buffer place t e ∙ k)

  -- So is the end.
  pub reads-ended : (stack : List ContainerKind) (place : Place) → reads_by by buffer stack (within place) ended ≡ stuck place ended
  unfolding reads_by
  reads-ended stack place = refl

  -- So is a fault.
  pub reads-refused : (stack : List ContainerKind) (place : Place) (f : Fault) →
      reads_by by buffer stack (within place) (refused f) ≡ stuck place (refused f)
  unfolding reads_by
  reads-refused stack place f = refl

  -- ---- after a key

  -- After a key the end is stuck.
  pub colon-ended : (stack : List ContainerKind) (key : Token) → reads_colon_by by buffer stack key ended ≡ stuck after_key ended
  unfolding reads_colon_by
  colon-ended stack key = refl

  -- So is a fault.
  pub colon-refused : (stack : List ContainerKind) (key : Token) (f : Fault) →
      reads_colon_by by buffer stack key (refused f) ≡ stuck after_key (refused f)
  unfolding reads_colon_by
  colon-refused stack key f = refl

  -- So is a token other than a colon.
  pub colon-missing : (stack : List ContainerKind) (key mark : Token) (rest : Tokens) → goes_on after_key mark.kind ≡ false →
      reads_colon_by by buffer stack key (next mark rest) ≡ stuck after_key (next mark rest)
  unfolding reads_colon_by
  colon-missing stack key mark rest c = rw (c, reads_colon_by) refl

  -- A colon gives the key's event, and a value is to stand after it.
  pub colon-stands : (stack : List ContainerKind) (key mark : Token) (rest : Tokens) → goes_on after_key mark.kind ≡ true →
      reads_colon_by by buffer stack key (next mark rest) ≡ gives (key_event buffer key mark) (reads_by by buffer stack (within after_colon) rest)
  unfolding reads_colon_by
  colon-stands stack key mark rest c = rw (c, reads_colon_by) refl

-- ---- where the rules are strict

-- By these rules the tokens may stand as they do.
abbrev pub Fits : Rules → List ℕ → Tokens → Type 0
Fits lenient_rules buffer ts = Unit {0}
Fits strict_rules buffer ts = AreStrict buffer ts

-- So may those after the first, and those after a value.
fits-next : (by : Rules) (buffer : List ℕ) (t : Token) (rest : Tokens) → Fits by buffer (next t rest) → Fits by buffer rest
fits-next lenient_rules buffer t rest f = tt
fits-next strict_rules buffer t rest (one_more _ _ a c more) = more

fits-suffix : (by : Rules) (buffer : List ℕ) (ts rest : Tokens) → IsSuffix ts rest → Fits by buffer ts → Fits by buffer rest
fits-suffix by buffer ts _ (all _) f = f
fits-suffix by buffer _ rest (later t ts _ s) f = fits-suffix by buffer ts rest s (fits-next by buffer t ts f)

-- After a comma no closing bracket stands, where the rules are strict.
behind_comma : (by : Rules) (buffer : List ℕ) (t : Token) (rest : Tokens) → t.kind ≡ token.comma → Fits by buffer (next t rest) →
    by ≡ strict_rules → begins_closing rest ≡ false
behind_comma lenient_rules buffer t rest k f e = cc
behind_comma strict_rules buffer t rest k (one_more _ _ a c more) e = c k

-- the places before an item: one after a comma where no closing bracket may stand
data BeforeItem : Tokens → Place → Type 0 where
  first_item : (ts : Tokens) → BeforeItem ts before_item
  later_item : (ts : Tokens) → begins_closing ts ≡ false → BeforeItem ts next_item

data BeforeKey : Tokens → Place → Type 0 where
  first_key : (ts : Tokens) → BeforeKey ts before_key
  later_key : (ts : Tokens) → begins_closing ts ≡ false → BeforeKey ts next_key

item-takes : {ts : Tokens} {place : Place} → BeforeItem ts place → TakesValue place
item-takes (first_item ts) = of_list
item-takes (later_item ts b) = of_next_item

key-takes : {ts : Tokens} {place : Place} → BeforeKey ts place → TakesKey place
key-takes (first_key ts) = of_object
key-takes (later_key ts b) = of_next_key

item-next : (by : Rules) (buffer : List ℕ) (t : Token) (rest : Tokens) → t.kind ≡ token.comma → Fits by buffer (next t rest) →
    BeforeItem rest (led by before_item)
item-next lenient_rules buffer t rest k f = first_item rest
item-next strict_rules buffer t rest k f = later_item rest (behind_comma strict_rules buffer t rest k f refl)

key-next : (by : Rules) (buffer : List ℕ) (t : Token) (rest : Tokens) → t.kind ≡ token.comma → Fits by buffer (next t rest) →
    BeforeKey rest (led by before_key)
key-next lenient_rules buffer t rest k f = first_key rest
key-next strict_rules buffer t rest k f = later_key rest (behind_comma strict_rules buffer t rest k f refl)

-- ---- whole values

module _ (by : Rules) (buffer : List ℕ) where
  -- A list that has ended.
  list_end : (stack : List ContainerKind) (place : Place) (last : Token) (rest : Tokens) → BeforeItem (next last rest) place →
      last.kind ≡ token.array_end →
      reads_by by buffer (array ∷ stack) (within place) (next last rest) ≡ gives (event_at event.sequence_end last) (reads_by by buffer stack (after_value stack) rest)
  list_end stack _ last rest (first_item _) k = reads-list_end by buffer array stack last rest k
  list_end stack _ last rest (later_item _ b) k = let no : true ≡ false = sym (ap is_closing k) ∙ b in cc

  object_ends : (stack : List ContainerKind) (place : Place) (last : Token) (rest : Tokens) → BeforeKey (next last rest) place →
      last.kind ≡ token.object_end →
      reads_by by buffer (object ∷ stack) (within place) (next last rest) ≡ gives (event_at event.struct_end last) (reads_by by buffer stack (after_value stack) rest)
  object_ends stack _ last rest (first_key _) k = reads-object_end by buffer object stack last rest k
  object_ends stack _ last rest (later_key _ b) k = let no : true ≡ false = sym (ap is_closing k) ∙ b in cc

  mutual
    unfolding tree_of walk

    -- From the start of a value on its walk comes, then what comes after a value.
    pub walk_comes_by : {ts rest : Tokens} {node : Node} (value : Tree) → Spells ts node rest → tree_of buffer node ≡ Some value →
        Fits by buffer ts → (stack : List ContainerKind) (place : Place) → TakesValue place →
        reads_by by buffer stack (within place) ts ≡ events_before (walk buffer node) (reads_by by buffer stack (after_value stack) rest)
    walk_comes_by value (one_token t rest k) e f stack place at = reads-scalar by buffer stack place t rest value at k e
    walk_comes_by value (brackets first last inner rest nodes k s) e f stack place at =
        let values = list_meant (trees_of buffer nodes) value e in
        let start = event_at (event.sequence_start array) first in
        let end = event_at event.sequence_end last in
        let behind = reads_by by buffer stack (after_value stack) rest in
        reads-array by buffer stack place first inner at k
        ∙ ap (gives start) (items_come_by values.0 s values.1 (fits-next by buffer first inner f) stack before_item (first_item inner))
        ∙ ap (gives start) (sym (events_before-append (walk_items buffer nodes) (end ∷ []) behind))
    walk_comes_by value (braces first last inner rest members k s) e f stack place at =
        let values = object_meant (pairs_of buffer members) value e in
        let start = event_at (event.struct_start object) first in
        let end = event_at event.struct_end last in
        let behind = reads_by by buffer stack (after_value stack) rest in
        reads-object by buffer stack place first inner at k
        ∙ ap (gives start) (members_come_by values.0 s values.1 (fits-next by buffer first inner f) stack before_key (first_key inner))
        ∙ ap (gives start) (sym (events_before-append (walk_members buffer members) (end ∷ []) behind))

    -- From after a bracket or a comma of a list on its items come, then its end.
    items_come_by : {ts rest : Tokens} {nodes : Nodes} {last : Token} (values : Trees) → SpellsItems ts nodes last rest →
        trees_of buffer nodes ≡ Some values → Fits by buffer ts → (stack : List ContainerKind) (place : Place) → BeforeItem ts place →
        reads_by by buffer (array ∷ stack) (within place) ts ≡ events_before (walk_items buffer nodes) (gives (event_at event.sequence_end last) (reads_by by buffer stack (after_value stack) rest))
    items_come_by values (closed last rest k) e f stack place at = list_end stack place last rest at k
    items_come_by values (item_and_comma ts others rest node nodes separator last s k more) e f stack place at =
        let all = item_meant buffer node nodes values e in
        let there = fits-suffix by buffer ts _ (Spells-suffix ts node _ s) f in
        walk_comes_by all.0 s all.2 f (array ∷ stack) place (item-takes at)
        ∙ ap (events_before (walk buffer node)) (reads-item_comma by buffer (array ∷ stack) separator others k
        ∙ items_come_by all.1 more all.3 (fits-next by buffer separator others there) stack (led by before_item) (item-next by buffer separator others k there))
        ∙ sym (events_before-append (walk buffer node) (walk_items buffer nodes) _)
    items_come_by values (last_item ts rest node last s k) e f stack place at =
        let all = item_meant buffer node no_nodes values e in
        walk_comes_by all.0 s all.2 f (array ∷ stack) place (item-takes at)
        ∙ ap (events_before (walk buffer node)) (reads-item_end by buffer array stack last rest k)
        ∙ sym (events_before-append (walk buffer node) [] _)

    -- From after a brace or a comma of an object on its members come, then its end.
    members_come_by : {ts rest : Tokens} {members : Members} {last : Token} (values : Pairs) →
        SpellsMembers ts members last rest → pairs_of buffer members ≡ Some values → Fits by buffer ts → (stack : List ContainerKind)
        (place : Place) → BeforeKey ts place →
        reads_by by buffer (object ∷ stack) (within place) ts ≡ events_before (walk_members buffer members) (gives (event_at event.struct_end last) (reads_by by buffer stack (after_value stack) rest))
    members_come_by values (ended_members last rest k) e f stack place at = object_ends stack place last rest at k
    members_come_by values (member_and_comma ts others rest key mark node members separator last i c s k more) e f stack place at =
        let all = member_meant buffer key mark node members values e in
        let inner = fits-next by buffer mark ts (fits-next by buffer key (next mark ts) f) in
        let there = fits-suffix by buffer ts _ (Spells-suffix ts node _ s) inner in
        key_at by buffer (object ∷ stack) place key mark ts all.0 (key-takes at) i all.3 c
        ∙ ap (gives (key_event buffer key mark)) (walk_comes_by all.1 s all.4 inner (object ∷ stack) after_colon of_member
        ∙ ap (events_before (walk buffer node)) (reads-member_comma by buffer (object ∷ stack) separator others k
        ∙ members_come_by all.2 more all.5 (fits-next by buffer separator others there) stack (led by before_key) (key-next by buffer separator others k there))
        ∙ sym (events_before-append (walk buffer node) (walk_members buffer members) _))
    members_come_by values (last_member ts rest key mark node last i c s k) e f stack place at =
        let all = member_meant buffer key mark node no_members values e in
        let inner = fits-next by buffer mark ts (fits-next by buffer key (next mark ts) f) in
        key_at by buffer (object ∷ stack) place key mark ts all.0 (key-takes at) i all.3 c
        ∙ ap (gives (key_event buffer key mark)) (walk_comes_by all.1 s all.4 inner (object ∷ stack) after_colon of_member
        ∙ ap (events_before (walk buffer node)) (reads-member_end by buffer object stack last rest k)
        ∙ sym (events_before-append (walk buffer node) [] _))

-- The same by lenient rules.
pub walk-comes : (buffer : List ℕ) {ts rest : Tokens} {node : Node} (value : Tree) → Spells ts node rest → tree_of buffer node ≡ Some value →
    (stack : List ContainerKind) (place : Place) → TakesValue place →
    reads buffer stack (within place) ts ≡ events_before (walk buffer node) (reads buffer stack (after_value stack) rest)
walk-comes buffer value s e stack place at = walk_comes_by lenient_rules buffer value s e tt stack place at

-- At the root of a document its walk comes, then the end.
pub document-comes : (buffer : List ℕ) (mode : Mode) (node : Node) (value : Tree) → IsDocument buffer mode node value →
    reads buffer [] (within place.root) (tokens buffer mode) ≡ events_before (walk buffer node) finished
unfolding reads_by
document-comes buffer mode node value d =
    walk-comes buffer value d.reads.spells d.reads.has_tree [] place.root at_root
