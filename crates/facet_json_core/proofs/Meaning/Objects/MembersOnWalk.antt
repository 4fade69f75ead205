-- How the members of an object are passed one by one on a walk: its first event, a key with its value, and the end.
use Rattle.std.specs.Prelude.{ℕ, List, drop, slice_get, length}
use Rattle.std.proofs.Common.{◌≡◌, ◌+◌, inr, ℕ, suc, true, false, List, [], ◌∷◌, ◌++◌, None, Some, IsSome, refl, sym, ap, ◌∙◌, arith, append_assoc, length-append}
use Rattle.facet_format.specs.Complaint.{Refusal}
use Rattle.facet_format.specs.Event.{Event, EventKind, Passed, object, sequence_start, sequence_end, struct_start, struct_end, field_key, Text, bytes_of}
use Rattle.facet_format.specs.Event as event
use Rattle.facet_format.specs.Cursor.{Cursor, Spot, at_spot, unpeeked}
use Rattle.facet_format.specs.Part.{Source}
use Rattle.facet_format.specs.Kept.{found}
use Rattle.facet_json_token.specs.Token.{Token}
use Rattle.facet_json_grammar.specs.Node.{Node, scalar, Members, no_members, member}
use Rattle.facet_json_grammar.specs.Node as node
use Rattle.facet_json_grammar.specs.Tree.{Pairs}
use Rattle.facet_json_grammar.specs.Meaning.{tree_of, pairs_of, text_in_tree, meaning}
use Rattle.facet_json_grammar.specs.Walk.{walk, walk_members, event_at, key_event, scalar_event, name_of}
use Rattle.facet_json_grammar.proofs.TreesOfParts.{object_meant, member_meant}
use Rattle.facet_json_grammar.specs.Now.{Now, StandsAt}
use Rattle.facet_json_core.proofs.WalkTells.{key-named}
use Rattle.facet_json_core.specs.Meaning.Nodes.{StandsBefore, StandsAfter}
use Rattle.facet_json_core.specs.Meaning.Passing.{WalksPast}
use Rattle.facet_json_core.specs.Meaning.Objects.{members_of, begins_object, BeginsObject, IsNoObject, key_or_end}
use Rattle.facet_json_core.proofs.Meaning.Leaves.LeafReadings.{walk-first}
use Rattle.facet_json_core.proofs.Meaning.WalkPlaces.{drop-get, drop-suc, drop-node}

-- ---- one event of a walk

-- The event that comes is the one that is passed, and the others come after it.
record PassesFirst (w : Source) (c : Cursor ℕ) (given : Event) (new : Now) (p : Passed) (others : List Passed) : Type 0 where
  same : p.event ≡ given
  stands : StandsAt new w (at_spot c (unpeeked (suc c.spot.place)))
  comes : drop (suc c.spot.place) w.events ≡ others

passes-first : (old new : Now) (given : Event) (w : Source) (c : Cursor ℕ) (p : Passed) (others : List Passed) → WalksPast old given new →
    StandsAt old w c → c.refusal ≡ None → drop c.spot.place w.events ≡ p ∷ others → PassesFirst w c given new p others
passes-first old new given w c p others walks stands free comes =
    let there = drop-get w.events c.spot.place p others comes in
    let passed = walks w c stands free in
    let both : Some p ≡ Some passed.passed = sym there ∙ passed.at_place in
    let same : p ≡ passed.passed = cc in
    record {
      same = ap (λ (x : Passed). x.event) same ∙ passed.same;
      stands = passed.stands;
      comes = drop-suc w.events c.spot.place p others comes;
    }

-- ---- an object's first event

-- The parser stands before these members of an object, or after its last one.
pub record AtMembers (now : Now) (w : Source) (c : Cursor ℕ) (n : Node) (members : Members) : Type 0 where
  pub cursor : Cursor ℕ
  pub stands : StandsAt now w cursor
  pub free : cursor.refusal ≡ None
  pub last : Token
  pub others : List Passed
  pub comes : drop cursor.spot.place w.events ≡ walk_members w.bytes members ++ event_at struct_end last ∷ others
  pub values : Pairs
  pub meant : pairs_of w.bytes members ≡ Some values
  pub counts : cursor.spot.place + length (walk_members w.bytes members) + 1 ≡ c.spot.place + length (walk w.bytes n)
  pub kept : (point : ℕ) (spot : Spot ℕ) → found point c.kept ≡ Some spot → found point cursor.kept ≡ Some spot

-- The members of the node before which the parser stood come next.
pub record IsBegun (new : Now) (w : Source) (c : Cursor ℕ) (n : Node) : Type 0 where
  pub members : Members
  pub is : members_of w.bytes n ≡ Some members
  pub at : AtMembers new w c n members

begun : (old new : Now) (given : Event) (w : Source) (c : Cursor ℕ) (n : Node) → begins_object given.kind ≡ true → WalksPast old given new →
    StandsBefore old w c n → IsBegun new w c n
unfolding walk tree_of
begun old new given w c (scalar t) is walks before =
    let p = passes-first old new given w c (scalar_event w.bytes t) before.others walks before.stands before.free before.comes in
    let kind = ap (λ (e : Event). begins_object e.kind) p.same ∙ is in cc
begun old new given w c (node.array first last nodes) is walks before =
    let p = passes-first old new given w c (event_at (sequence_start event.array) first) _ walks before.stands before.free before.comes in
    let kind = ap (λ (e : Event). begins_object e.kind) p.same ∙ is in cc
begun old new given w c (node.object first last members) is walks before =
    let p = passes-first old new given w c (event_at (struct_start object) first) _ walks before.stands before.free before.comes in
    let values = object_meant (pairs_of w.bytes members) before.value before.meant in
    record {
      members = members;
      is = refl;
      at = record {
        cursor = at_spot c (unpeeked (suc c.spot.place));
        stands = p.stands;
        free = before.free;
        last = last;
        others = before.others;
        comes = p.comes ∙ append_assoc (walk_members w.bytes members) (event_at struct_end last ∷ []) before.others;
        values = values.0;
        meant = values.1;
        counts = omega (arith, length-append (walk_members w.bytes members) (event_at struct_end last ∷ []));
        kept = λ point spot e. e;
      };
    }

pub object-begins : (old new : Now) → BeginsObject old new → (w : Source) (c : Cursor ℕ) (n : Node) → StandsBefore old w c n → IsBegun new w c n
object-begins old new b w c n before = begun old new b.0 w c n b.1 b.2 before

-- Where no object begins, the node is none.
no-members : (kind : EventKind) (buffer : List ℕ) (n : Node) (p : Passed) (others rest : List Passed) → p.event.kind ≡ kind → begins_object kind ≡ false →
    walk buffer n ++ others ≡ p ∷ rest → members_of buffer n ≡ None
unfolding walk
no-members kind buffer (scalar t) p others rest k is e = refl
no-members kind buffer (node.array first last nodes) p others rest k is e = refl
no-members kind buffer (node.object first last inside) p others rest k is e =
    let same : event_at (struct_start object) first ≡ p = cc in
    let there = ap (λ (x : Passed). begins_object x.event.kind) same ∙ ap begins_object k ∙ is in cc

pub object-unread : (old new : Now) (given : Event) (r : Refusal) → begins_object given.kind ≡ false → WalksPast old given new → IsNoObject old r
object-unread old new given r is walks w c n before =
    let first = walk-first w.bytes n before.others in
    let p = passes-first old new given w c first.first first.others walks before.stands before.free (before.comes ∙ first.are) in
    inr (no-members given.kind w.bytes n first.first before.others first.others (ap (λ (e : Event). e.kind) p.same) is first.are)

-- ---- a key

-- A key that comes next is the first member's.
pub record IsMember (mid : Now) (w : Source) (c : Cursor ℕ) (n : Node) (members : Members) (name : List ℕ) : Type 0 where
  pub key : Token
  pub mark : Token
  pub value : Node
  pub rest : Members
  pub are : members ≡ member key mark value rest
  pub named : text_in_tree (meaning w.bytes key) ≡ Some name
  pub cursor : Cursor ℕ
  pub before : StandsBefore mid w cursor value
  pub past : (new : Now) → StandsAfter new w cursor value → AtMembers new w c n rest

-- The text in the key's event is the key's.
same-name : (k name : List ℕ) (given : Text) → bytes_of given ≡ k → key_or_end (field_key given) ≡ Some (Some name) → k ≡ name
same-name k name given e is = let kind : Some (Some (bytes_of given)) ≡ Some (Some name) = is in cc

-- After the value the other members come.
past-member : (w : Source) (c : Cursor ℕ) (n : Node) (now new : Now) (key mark : Token) (value : Node) (rest : Members)
    (at : AtMembers now w c n (member key mark value rest)) (d : Cursor ℕ) → d.kept ≡ at.cursor.kept → d.spot.place ≡ suc at.cursor.spot.place →
    drop d.spot.place w.events ≡ walk w.bytes value ++ (walk_members w.bytes rest ++ event_at struct_end at.last ∷ at.others) →
    (values : Pairs) → pairs_of w.bytes rest ≡ Some values → StandsAfter new w d value → AtMembers new w c n rest
unfolding walk_members
past-member w c n now new key mark value rest at d kept place comes values meant after = record {
  cursor = after.cursor;
  stands = after.stands;
  free = after.free;
  last = at.last;
  others = at.others;
  comes =
      ap (λ (s : Spot ℕ). drop s.place w.events) after.there
      ∙ drop-node w d.spot.place value (walk_members w.bytes rest ++ event_at struct_end at.last ∷ at.others) comes;
  values = values;
  meant = meant;
  counts =
      let spot = ap (λ (s : Spot ℕ). s.place) after.there in
      let all = at.counts in
      omega (arith, spot, all, place, length-append (walk w.bytes value) (walk_members w.bytes rest));
  kept = λ point spot e. after.kept point spot (ap (found point) kept ∙ at.kept point spot e);
}

at-member : (now mid : Now) (given : Event) (name : List ℕ) (w : Source) (c : Cursor ℕ) (n : Node) (key mark : Token) (value : Node) (rest : Members) →
    WalksPast now given mid → key_or_end given.kind ≡ Some (Some name) → AtMembers now w c n (member key mark value rest) →
    IsMember mid w c n (member key mark value rest) name
unfolding walk_members
at-member now mid given name w c n key mark value rest walks is at =
    let here = key_event w.bytes key mark in
    let all = walk w.bytes value ++ walk_members w.bytes rest in
    let tail : List Passed = event_at struct_end at.last ∷ at.others in
    let p = passes-first now mid given w at.cursor here (all ++ tail) walks at.stands at.free at.comes in
    let has = member_meant w.bytes key mark value rest at.values at.meant in
    let same = same-name has.0 name (name_of key.kind (text_in_tree (meaning w.bytes key))) (key-named w.bytes key has.0 has.3) (ap (λ (e : Event). key_or_end e.kind) p.same ∙ is) in
    let comes = p.comes ∙ append_assoc (walk w.bytes value) (walk_members w.bytes rest) tail in
    let next = at_spot at.cursor (unpeeked (suc at.cursor.spot.place)) in
    record {
      key = key;
      mark = mark;
      value = value;
      rest = rest;
      are = refl;
      named = has.3 ∙ ap Some same;
      cursor = next;
      before = record { stands = p.stands; free = at.free; others = walk_members w.bytes rest ++ tail; comes = comes; value = has.1; meant = has.4 };
      past = λ new after. past-member w c n now new key mark value rest at next refl refl comes has.2 has.5 after;
    }

pub at-key : (now mid : Now) (given : Event) (name : List ℕ) (w : Source) (c : Cursor ℕ) (n : Node) (members : Members) → WalksPast now given mid →
    key_or_end given.kind ≡ Some (Some name) → AtMembers now w c n members → IsMember mid w c n members name
unfolding walk_members
at-key now mid given name w c n no_members walks is at =
    let p = passes-first now mid given w at.cursor (event_at struct_end at.last) at.others walks at.stands at.free at.comes in
    let kind : Some None ≡ Some (Some name) = ap (λ (e : Event). key_or_end e.kind) p.same ∙ is in
    absurd (cc)
at-key now mid given name w c n (member key mark value rest) walks is at = at-member now mid given name w c n key mark value rest walks is at

-- A key or the end comes next.
pub record HasKey (w : Source) (place : ℕ) : Type 0 where
  pub first : Passed
  pub at : slice_get w.events place ≡ Some first
  pub is : IsSome (key_or_end first.event.kind)

pub key-comes : (now : Now) (w : Source) (c : Cursor ℕ) (n : Node) (members : Members) (at : AtMembers now w c n members) → HasKey w at.cursor.spot.place
unfolding walk_members
key-comes now w c n no_members at =
    let first = event_at struct_end at.last in
    record { first = first; at = drop-get w.events at.cursor.spot.place first at.others at.comes; is = refl }
key-comes now w c n (member key mark value rest) at =
    let first = key_event w.bytes key mark in
    record { first = first; at = drop-get w.events at.cursor.spot.place first _ at.comes; is = refl }

-- The end that comes next is the object's.
pub at-end : (now new : Now) (given : Event) (w : Source) (c : Cursor ℕ) (n : Node) (members : Members) → WalksPast now given new →
    key_or_end given.kind ≡ Some None → AtMembers now w c n members → (members ≡ no_members) × StandsAfter new w c n
unfolding walk_members
at-end now new given w c n no_members walks is at =
    let p = passes-first now new given w at.cursor (event_at struct_end at.last) at.others walks at.stands at.free at.comes in (
      refl,
      record {
        cursor = at_spot at.cursor (unpeeked (suc at.cursor.spot.place));
        stands = p.stands;
        free = at.free;
        there = ap unpeeked (omega (arith, at.counts));
        kept = at.kept;
      },
    )
at-end now new given w c n (member key mark value rest) walks is at =
    let p = passes-first now new given w at.cursor (key_event w.bytes key mark) _ walks at.stands at.free at.comes in
    let kind = ap (λ (e : Event). key_or_end e.kind) p.same ∙ is in cc
