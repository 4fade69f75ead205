-- How a list is read: the first event of an array, its items one by one, and its closing bracket.
use Rattle.std.specs.Prelude.{ℕ, List, drop, slice_get, length}
use Rattle.std.specs.Option.{option_map}
use Rattle.std.proofs.Common.{◌≡◌, ◌+◌, ◌⊎◌, inl, inr, ℕ, suc, true, false, List, [], ◌∷◌, ◌++◌, Option, None, Some, refl, sym, ap, ◌∙◌, arith, append_assoc, append-nil, length-append}
use Rattle.facet_format.specs.Complaint.{Refusal}
use Rattle.facet_format.specs.Event.{Event, Passed, array, sequence_start, sequence_end, struct_start}
use Rattle.facet_format.specs.Event as events
use Rattle.facet_format.specs.Cursor.{Cursor, Spot, at_spot, unpeeked}
use Rattle.facet_format.specs.Part.{Source}
use Rattle.facet_format.specs.Kept.{found}
use Rattle.facet_json_token.specs.Token.{Token}
use Rattle.facet_json_grammar.specs.Node.{Node, scalar, Nodes, no_nodes, item}
use Rattle.facet_json_grammar.specs.Node as node
use Rattle.facet_json_grammar.specs.Tree.{Trees}
use Rattle.facet_json_grammar.specs.Meaning.{tree_of, trees_of}
use Rattle.facet_json_grammar.specs.Walk.{walk, walk_items, event_at, scalar_event}
use Rattle.facet_json_grammar.proofs.TreesOfParts.{list_meant, item_meant}
use Rattle.facet_json_grammar.specs.Now.{Now, StandsAt}
use Rattle.facet_json_core.specs.Reading.{LacksMemory}
use Rattle.facet_json_core.specs.Meaning.Nodes.{StandsBefore, StandsAfter}
use Rattle.facet_json_core.specs.Meaning.Passing.{WalksPast, LacksAlone}
use Rattle.facet_json_core.specs.Meaning.Reading.{IsRead, IsUnread}
use Rattle.facet_json_core.specs.Meaning.Lists.{put_value, items_of, list_of}
use Rattle.facet_json_core.specs.Meaning.ListSteps.{nodes_of, begins_list, ends_list, BeginsList, IsNoList}
use Rattle.facet_json_core.specs.Meaning.Taking.{Takes, StaysThere, StaysBefore, PassesItem}
use Rattle.facet_json_core.proofs.Meaning.Walks.FirstEvents.{first_event, first-passed}
use Rattle.facet_json_core.proofs.Meaning.WalkPlaces.{drop-get, drop-suc, drop-node}

-- ---- within an array

-- The parser stands before these items of an array, which is the node, or before its closing bracket.
pub record AtItems (now : Now) (w : Source) (c : Cursor ℕ) (n : Node) (nodes : Nodes) : Type 0 where
  pub cursor : Cursor ℕ
  pub stands : StandsAt now w cursor
  pub free : cursor.refusal ≡ None
  pub last : Token
  pub others : List Passed
  pub comes : drop cursor.spot.place w.events ≡ walk_items w.bytes nodes ++ event_at sequence_end last ∷ others
  pub values : Trees
  pub meant : trees_of w.bytes nodes ≡ Some values
  pub counts : cursor.spot.place + length (walk_items w.bytes nodes) + 1 ≡ c.spot.place + length (walk w.bytes n)
  pub kept : (point : ℕ) (spot : Spot ℕ) → found point c.kept ≡ Some spot → found point cursor.kept ≡ Some spot

-- An event is there.
pub at-event : (now : Now) (w : Source) (c : Cursor ℕ) (n : Node) (nodes : Nodes) (at : AtItems now w c n nodes) →
    (p : Passed) × (slice_get w.events at.cursor.spot.place ≡ Some p)
unfolding walk_items walk
at-event now w c n no_nodes at = (_, drop-get w.events at.cursor.spot.place _ _ at.comes)
at-event now w c n (item (scalar t) nodes) at = (_, drop-get w.events at.cursor.spot.place _ _ at.comes)
at-event now w c n (item (node.array first last inside) nodes) at = (_, drop-get w.events at.cursor.spot.place _ _ at.comes)
at-event now w c n (item (node.object first last inside) nodes) at = (_, drop-get w.events at.cursor.spot.place _ _ at.comes)

-- An item comes first.
pub record IsItem (nodes : Nodes) : Type 0 where
  pub first : Node
  pub rest : Nodes
  pub are : nodes ≡ item first rest

-- An array ends only after its items.
pub ends-after : (now : Now) (w : Source) (c : Cursor ℕ) (n : Node) (nodes : Nodes) (at : AtItems now w c n nodes) (p : Passed) →
    slice_get w.events at.cursor.spot.place ≡ Some p → ends_list p.event.kind ≡ true → nodes ≡ no_nodes
unfolding walk_items walk
ends-after now w c n no_nodes at p there is = refl
ends-after now w c n (item (scalar t) nodes) at p there is =
    let stands = drop-get w.events at.cursor.spot.place (scalar_event w.bytes t) _ at.comes in
    let same : scalar_event w.bytes t ≡ p = cc in
    let kind = ap (λ (x : Passed). ends_list x.event.kind) same ∙ is in cc
ends-after now w c n (item (node.array first last inside) nodes) at p there is =
    let stands = drop-get w.events at.cursor.spot.place (event_at (sequence_start array) first) _ at.comes in
    let same : event_at (sequence_start array) first ≡ p = cc in
    let kind = ap (λ (x : Passed). ends_list x.event.kind) same ∙ is in cc
ends-after now w c n (item (node.object first last inside) nodes) at p there is =
    let stands = drop-get w.events at.cursor.spot.place (event_at (struct_start events.object) first) _ at.comes in
    let same : event_at (struct_start events.object) first ≡ p = cc in
    let kind = ap (λ (x : Passed). ends_list x.event.kind) same ∙ is in cc

pub goes-on : (now : Now) (w : Source) (c : Cursor ℕ) (n : Node) (nodes : Nodes) (at : AtItems now w c n nodes) (p : Passed) →
    slice_get w.events at.cursor.spot.place ≡ Some p → ends_list p.event.kind ≡ false → IsItem nodes
unfolding walk_items
goes-on now w c n no_nodes at p there is =
    let stands = drop-get w.events at.cursor.spot.place (event_at sequence_end at.last) _ at.comes in
    let same : event_at sequence_end at.last ≡ p = cc in
    let kind = ap (λ (x : Passed). ends_list x.event.kind) same ∙ is in cc
goes-on now w c n (item first rest) at p there is = record { first = first; rest = rest; are = refl }

-- ---- an array's first event

-- The items of the node before which the parser stood come next.
pub record IsBegunList (new : Now) (w : Source) (c : Cursor ℕ) (n : Node) : Type 0 where
  pub nodes : Nodes
  pub is : nodes_of w.bytes n ≡ Some nodes
  pub at : AtItems new w c n nodes

pub array-begins : (old new : Now) (given : Event) (w : Source) (c : Cursor ℕ) (n : Node) → begins_list given.kind ≡ true → WalksPast old given new →
    StandsBefore old w c n → IsBegunList new w c n
unfolding walk tree_of
array-begins old new given w c (scalar t) is walks before =
    let kind = ap (λ (e : Event). begins_list e.kind) (first-passed old new given w c (scalar t) walks before) ∙ is in cc
array-begins old new given w c (node.object first last inside) is walks before =
    let kind = ap (λ (e : Event). begins_list e.kind) (first-passed old new given w c (node.object first last inside) walks before) ∙ is in cc
array-begins old new given w c (node.array first last nodes) is walks before =
    let passed = walks w c before.stands before.free in
    let values = list_meant (trees_of w.bytes nodes) before.value before.meant in
    record {
      nodes = nodes;
      is = refl;
      at = record {
        cursor = at_spot c (unpeeked (suc c.spot.place));
        stands = passed.stands;
        free = before.free;
        last = last;
        others = before.others;
        comes =
            drop-suc w.events c.spot.place _ _ before.comes
            ∙ append_assoc (walk_items w.bytes nodes) (event_at sequence_end last ∷ []) before.others;
        values = values.0;
        meant = values.1;
        counts = omega (arith, length-append (walk_items w.bytes nodes) (event_at sequence_end last ∷ []));
        kept = λ point spot e. e;
      };
    }

-- ---- a look at what comes, and an item

-- Where the parser stays, the same comes.
pub at-spot : (now new : Now) (w : Source) (c : Cursor ℕ) (n : Node) (nodes : Nodes) (at : AtItems now w c n nodes) (p : Passed) →
    StaysThere ends_list w at.cursor p new → AtItems new w c n nodes
at-spot now new w c n nodes at p stays = record {
  cursor = at_spot at.cursor stays.spot;
  stands = stays.stands;
  free = at.free;
  last = at.last;
  others = at.others;
  comes = ap (λ (k : ℕ). drop k w.events) stays.place ∙ at.comes;
  values = at.values;
  meant = at.meant;
  counts = ap (λ (k : ℕ). k + length (walk_items w.bytes nodes) + 1) stays.place ∙ at.counts;
  kept = at.kept;
}

-- What stands before an item.
pub item-before : (now : Now) (w : Source) (c : Cursor ℕ) (n first : Node) (rest : Nodes) (at : AtItems now w c n (item first rest)) →
    StandsBefore now w at.cursor first
unfolding walk_items
item-before now w c n first rest at =
    let meant = item_meant w.bytes first rest at.values at.meant in
    record {
      stands = at.stands;
      free = at.free;
      others = walk_items w.bytes rest ++ event_at sequence_end at.last ∷ at.others;
      comes = at.comes ∙ append_assoc (walk w.bytes first) (walk_items w.bytes rest) (event_at sequence_end at.last ∷ at.others);
      value = meant.0;
      meant = meant.2;
    }

-- What comes after an item.
pub item-after : (now new : Now) (w : Source) (c : Cursor ℕ) (n first : Node) (rest : Nodes) (at : AtItems now w c n (item first rest)) →
    StandsAfter new w at.cursor first → AtItems new w c n rest
unfolding walk_items item-before
item-after now new w c n first rest at after =
    let meant = item_meant w.bytes first rest at.values at.meant in
    let before = item-before now w c n first rest at in
    record {
      cursor = after.cursor;
      stands = after.stands;
      free = after.free;
      last = at.last;
      others = at.others;
      comes =
          ap (λ (s : Spot ℕ). drop s.place w.events) after.there
          ∙ drop-node w at.cursor.spot.place first (walk_items w.bytes rest ++ event_at sequence_end at.last ∷ at.others) before.comes;
      values = meant.1;
      meant = meant.3;
      counts =
          let there : after.cursor.spot.place ≡ at.cursor.spot.place + length (walk w.bytes first) = ap (λ (s : Spot ℕ). s.place) after.there in
          omega (arith, there, at.counts, length-append (walk w.bytes first) (walk_items w.bytes rest));
      kept = λ point spot e. after.kept point spot (at.kept point spot e);
    }

-- After the closing bracket the parser stands after the node.
pub items-closed : (now new : Now) (w : Source) (c : Cursor ℕ) (n : Node) (nodes : Nodes) (at : AtItems now w c n nodes) → nodes ≡ no_nodes →
    StandsAt new w (at_spot at.cursor (unpeeked (suc at.cursor.spot.place))) → StandsAfter new w c n
unfolding walk_items
items-closed now new w c n (item first rest) at none stands = cc
items-closed now new w c n no_nodes at none stands = record {
  cursor = at_spot at.cursor (unpeeked (suc at.cursor.spot.place));
  stands = stands;
  free = at.free;
  there = ap unpeeked (omega (arith, at.counts));
  kept = at.kept;
}

-- What comes can't be looked at: memory ran out.
pub at-lacks : (now : Now) (r : Refusal) (w : Source) (c : Cursor ℕ) (n : Node) (nodes : Nodes) → AtItems now w c n nodes → LacksAlone now r →
    LacksMemory r
at-lacks now r w c n nodes at lacks =
    let there = at-event now w c n nodes at in lacks.lacks w at.cursor there.0 at.stands at.free there.1

-- ---- what is read so far

none-first : {V : Type 0} (o : Option (List V)) → o ≡ option_map (λ vs. [] ++ vs) o
none-first None = refl
none-first (Some vs) = refl

one-first : {V : Type 0} (values : List V) (v : V) (o : Option (List V)) →
    option_map (λ vs. values ++ vs) (put_value (Some v) o) ≡ option_map (λ vs. (values ++ v ∷ []) ++ vs) o
one-first values v None = refl
one-first values v (Some vs) = ap Some (sym (append_assoc values (v ∷ []) vs))

-- ---- no array

no_nodes_of : (buffer : List ℕ) (n : Node) → begins_list (first_event buffer n).event.kind ≡ false → nodes_of buffer n ≡ None
no_nodes_of buffer (scalar t) e = refl
no_nodes_of buffer (node.array first last nodes) e = cc
no_nodes_of buffer (node.object first last inside) e = refl

-- No array begins with the event that is passed.
pub no_list-begins : (old new : Now) (given : Event) (r : Refusal) → begins_list given.kind ≡ false → WalksPast old given new → IsNoList old r
no_list-begins old new given r is walks w c n before =
    inr (no_nodes_of w.bytes n (ap (λ (e : Event). begins_list e.kind) (first-passed old new given w c n walks before) ∙ is))

-- ---- what is read

module _ {V : Type 0} (reading : List ℕ → Node → Option V) where
  -- The node's items are these values, and then those that are read from these nodes, which come next.
  pub record LeftItems (values : List V) (now : Now) (w : Source) (c : Cursor ℕ) (n : Node) : Type 0 where
    pub nodes : Nodes
    pub is : list_of reading w.bytes n ≡ option_map (λ vs. values ++ vs) (items_of reading w.bytes nodes)
    pub at : AtItems now w c n nodes

  -- Before whatever node the parser stood, it is an array, of which these items are read.
  pub record ReadSoFar (old : Now) (values : List V) (now : Now) : Type 0 where
    pub left : (w : Source) (c : Cursor ℕ) (n : Node) → StandsBefore old w c n → LeftItems values now w c n

  -- The same, where an item comes next.
  pub record BeforeItem (old : Now) (values : List V) (now : Now) : Type 0 where
    pub left : (w : Source) (c : Cursor ℕ) (n : Node) → StandsBefore old w c n →
        (l : LeftItems values now w c n) × IsItem l.nodes

  -- ---- the first event

  all_items : (buffer : List ℕ) (n : Node) (nodes : Nodes) → nodes_of buffer n ≡ Some nodes → list_of reading buffer n ≡ items_of reading buffer nodes
  all_items buffer (scalar t) nodes e = cc
  all_items buffer (node.array first last inside) nodes e = let same : inside ≡ nodes = cc in ap (items_of reading buffer) same
  all_items buffer (node.object first last inside) nodes e = cc

  -- An array begins, and nothing of it is read yet.
  pub list-begins : (old new : Now) → BeginsList old new → ReadSoFar old [] new
  list-begins old new b = record {
    left = λ w c n before.
        let s = array-begins old new b.given w c n b.begins b.walks before in
        record { nodes = s.nodes; is = all_items w.bytes n s.nodes s.is ∙ none-first (items_of reading w.bytes s.nodes); at = s.at };
  }

  no_list : (buffer : List ℕ) (n : Node) → nodes_of buffer n ≡ None → list_of reading buffer n ≡ None
  no_list buffer (scalar t) e = refl
  no_list buffer (node.array first last nodes) e = cc
  no_list buffer (node.object first last inside) e = refl

  -- No array begins.
  pub list-none : (old : Now) (r : Refusal) → IsNoList old r → IsUnread (list_of reading) old r
  list-none old r h w c n before = elim (h w c n before) [ inl lacks ↦ inl lacks | inr none ↦ inr (no_list w.bytes n none) ]

  -- ---- a look at what comes

  pub list-goes_on : (old now new : Now) (values : List V) → ReadSoFar old values now → StaysBefore ends_list now new → BeforeItem old values new
  list-goes_on old now new values so stays = record {
    left = λ w c n before.
        let l = so.left w c n before in
        let there = at-event now w c n l.nodes l.at in
        let is = stays.finds w l.at.cursor there.0 l.at.stands l.at.free there.1 in (
          record { nodes = l.nodes; is = l.is; at = at-spot now new w c n l.nodes l.at there.0 is },
          goes-on now w c n l.nodes l.at there.0 there.1 is.other,
        );
  }

  -- An event that ends no list is an item's.
  pub list-goes_past : (old now new : Now) (values : List V) → ReadSoFar old values now → PassesItem now new → BeforeItem old values now
  list-goes_past old now new values so passes = record {
    left = λ w c n before.
        let l = so.left w c n before in
        let p = passes.2 w l.at.cursor l.at.stands l.at.free in
        let other : ends_list p.passed.event.kind ≡ false = ap (λ (e : Event). ends_list e.kind) p.same ∙ passes.1 in
        (l, goes-on now w c n l.nodes l.at p.passed p.at_place other);
  }

  -- ---- an item

  more-read : (now new : Now) (values : List V) (v : V) (w : Source) (c : Cursor ℕ) (n : Node) (nodes : Nodes) →
      list_of reading w.bytes n ≡ option_map (λ vs. values ++ vs) (items_of reading w.bytes nodes) → AtItems now w c n nodes → IsItem nodes →
      IsRead reading now v new → LeftItems (values ++ v ∷ []) new w c n
  more-read now new values v w c n no_nodes is at i read = let none = i.are in cc
  more-read now new values v w c n (item first rest) is at i read =
      let here = read w at.cursor first (item-before now w c n first rest at) in
      record {
        nodes = rest;
        is =
            is ∙ ap (λ o. option_map (λ vs. values ++ vs) (put_value o (items_of reading w.bytes rest))) here.0
            ∙ one-first values v (items_of reading w.bytes rest);
        at = item-after now new w c n first rest at here.1;
      }

  -- An item is read.
  pub list-more : (old now new : Now) (values : List V) (v : V) → BeforeItem old values now → IsRead reading now v new →
      ReadSoFar old (values ++ v ∷ []) new
  list-more old now new values v b read = record {
    left = λ w c n before. let l = b.left w c n before in more-read now new values v w c n l.0.nodes l.0.is l.0.at l.1 read;
  }

  item-none : (now : Now) (values : List V) (r : Refusal) (w : Source) (c : Cursor ℕ) (n : Node) (nodes : Nodes) →
      list_of reading w.bytes n ≡ option_map (λ vs. values ++ vs) (items_of reading w.bytes nodes) → AtItems now w c n nodes → IsItem nodes →
      IsUnread reading now r → LacksMemory r ⊎ (list_of reading w.bytes n ≡ None)
  item-none now values r w c n no_nodes is at i unread = let none = i.are in cc
  item-none now values r w c n (item first rest) is at i unread = elim (unread w at.cursor first (item-before now w c n first rest at)) [
    | inl lacks ↦ inl lacks
    | inr none ↦ inr (is ∙ ap (λ o. option_map (λ vs. values ++ vs) (put_value o (items_of reading w.bytes rest))) none)
  ]

  -- An item is refused.
  pub list-unread : (old now : Now) (values : List V) (r : Refusal) → BeforeItem old values now → IsUnread reading now r →
      IsUnread (list_of reading) old r
  list-unread old now values r b unread w c n before =
      let l = b.left w c n before in item-none now values r w c n l.0.nodes l.0.is l.0.at l.1 unread

  -- ---- the end

  closed : (now new : Now) (values : List V) (w : Source) (c : Cursor ℕ) (n : Node) (nodes : Nodes) →
      list_of reading w.bytes n ≡ option_map (λ vs. values ++ vs) (items_of reading w.bytes nodes) → (at : AtItems now w c n nodes) → nodes ≡ no_nodes →
      StandsAt new w (at_spot at.cursor (unpeeked (suc at.cursor.spot.place))) → (list_of reading w.bytes n ≡ Some values) × StandsAfter new w c n
  closed now new values w c n (item first rest) is at none stands = cc
  closed now new values w c n no_nodes is at none stands = (is ∙ ap Some (append-nil values), items-closed now new w c n no_nodes at none stands)

  -- The closing bracket is passed.
  pub list-ends : (old now new : Now) (values : List V) → ReadSoFar old values now → Takes ends_list now new → IsRead (list_of reading) old values new
  list-ends old now new values so takes w c n before =
      let l = so.left w c n before in
      let there = at-event now w c n l.nodes l.at in
      let is = takes w l.at.cursor there.0 l.at.stands l.at.free there.1 in
      closed now new values w c n l.nodes l.is l.at (ends-after now w c n l.nodes l.at there.0 there.1 is.so) is.stands

  -- ---- no event

  -- What comes can't be looked at.
  pub list-unseen : (old now : Now) (values : List V) (r : Refusal) → ReadSoFar old values now → LacksAlone now r →
      IsUnread (list_of reading) old r
  list-unseen old now values r so lacks w c n before =
      let l = so.left w c n before in inl (at-lacks now r w c n l.nodes l.at lacks)

-- Memory ran out.
pub lacks-unread : {V : Type 0} (reading : List ℕ → Node → Option V) (old : Now) (r : Refusal) → LacksMemory r → IsUnread reading old r
lacks-unread reading old r lacks w c n before = inl lacks
