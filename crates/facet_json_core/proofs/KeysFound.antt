-- A search for a key, member by member.
use Rattle.std.specs.Prelude.{ℕ, List, Bool, if◌then◌else◌, drop, length}
use Rattle.std.specs.Str.{bytes_eq}
use Rattle.std.proofs.Common.{◌≡◌, ◌≢◌, ◌+◌, suc, true, false, inl, inr, ◌∷◌, ◌++◌, None, Some, refl, sym, ap, ◌∙◌, subst, arith, append_assoc, length-append}
use Rattle.std.proofs.lemmas.Slice.Eq.{bytes_eq-Decides}
use Rattle.facet_format.specs.Complaint.{Refusal}
use Rattle.facet_format.specs.Cursor.{Cursor, Spot, at_spot, unpeeked}
use Rattle.facet_format.specs.Event.{Event, Passed, object, struct_end}
use Rattle.facet_format.specs.Part.{Source}
use Rattle.facet_json_token.specs.Token.{Token}
use Rattle.facet_json_grammar.specs.Meaning.{pairs_of, text_in_tree, meaning}
use Rattle.facet_json_grammar.specs.Node.{Node, scalar, Members, member}
use Rattle.facet_json_grammar.specs.Now.{Now, GoesOn}
use Rattle.facet_json_grammar.specs.Tree.{Pairs}
use Rattle.facet_json_grammar.specs.Walk.{walk, walk_members, event_at, key_event}
use Rattle.facet_json_grammar.proofs.TreesOfParts.{member_meant}
use Rattle.facet_json_core.specs.Meaning.Nodes.{StandsBefore, KeepsOn}
use Rattle.facet_json_core.specs.Meaning.Objects.{PassesKey, LacksKey}
use Rattle.facet_json_core.specs.Meaning.OneValue.{PassesValue, PassesKeyInside}
use Rattle.facet_json_core.specs.Meaning.Passing.{anything, WalksPast}
use Rattle.facet_json_core.specs.Meaning.Reading.{IsRead, IsUnread}
use Rattle.facet_json_core.proofs.Meaning.Keeping.{keeps-then}
use Rattle.facet_json_core.proofs.Meaning.Objects.MembersOnWalk.{AtMembers, at-key, at-end, key-comes}
use Rattle.facet_json_core.proofs.Meaning.OneValue.WithinValues.{inside-value}
use Rattle.facet_json_core.proofs.Meaning.WalkPlaces.{drop-node, drop-suc}
use Rattle.facet_json_core.proofs.Meaning.Walks.NextOnWalk.{goes-keeps}
use Rattle.facet_json_core.specs.Finding.{names_key, from_key, walk_from, StandsAmong, FindsKey, LacksMembers, PassesNextKey, no_other, one_more, IsSearching}
use Rattle.facet_json_core.proofs.TakenNext.{stays-put}

-- ---- one member on a walk

-- The members come as those of an object that ends right after its bracket.
at-members : (now : Now) (w : Source) (c : Cursor ℕ) (members : Members) (last : Token) (others : List Passed) → StandsAmong now w c members last others →
    AtMembers now w (at_spot c (unpeeked (c.spot.place + length (walk_members w.bytes members)))) (scalar last) members
unfolding walk
at-members now w c inner last others s = record {
  cursor = c;
  stands = s.stands;
  free = s.free;
  last = last;
  others = others;
  comes = s.comes;
  values = s.values;
  meant = s.meant;
  counts = refl;
  kept = λ point spot e. e;
}

-- The key that is passed is the first member's, and its value comes next.
record IsKeyPassed (mid : Now) (w : Source) (c : Cursor ℕ) (members : Members) (last : Token) (others : List Passed) (text : List ℕ) : Type 0 where
  key : Token
  mark : Token
  value : Node
  rest : Members
  are : members ≡ member key mark value rest
  named : text_in_tree (meaning w.bytes key) ≡ Some text
  before : StandsBefore mid w (at_spot c (unpeeked (suc c.spot.place))) value
  comes : before.others ≡ walk_from w.bytes rest last others
  values : Pairs
  meant : pairs_of w.bytes rest ≡ Some values
  counts : suc c.spot.place + length (walk w.bytes value) + length (walk_members w.bytes rest) ≡ c.spot.place + length (walk_members w.bytes members)

key-passed : (now mid : Now) (text : List ℕ) (w : Source) (c : Cursor ℕ) (key mark : Token) (value : Node) (rest : Members) (last : Token) (others : List Passed)
    (given : Event) → WalksPast now given mid → text_in_tree (meaning w.bytes key) ≡ Some text → StandsAmong now w c (member key mark value rest) last others →
    IsKeyPassed mid w c (member key mark value rest) last others text
unfolding walk_members
key-passed now mid text w c key mark value rest last others given walks named s =
    let passed = walks w c s.stands s.free in
    let has = member_meant w.bytes key mark value rest s.values s.meant in
    let tail : List Passed = event_at struct_end last ∷ others in
    let all = walk w.bytes value ++ walk_members w.bytes rest in
    let comes = drop-suc w.events c.spot.place (key_event w.bytes key mark) (all ++ tail) s.comes ∙ append_assoc (walk w.bytes value) (walk_members w.bytes rest) tail in
    record {
      key = key;
      mark = mark;
      value = value;
      rest = rest;
      are = refl;
      named = named;
      before = record { stands = passed.stands; free = s.free; others = walk_from w.bytes rest last others; comes = comes; value = has.1; meant = has.4 };
      comes = refl;
      values = has.2;
      meant = has.5;
      counts = omega (arith, length-append (walk w.bytes value) (walk_members w.bytes rest));
    }

first-passed : (now mid : Now) (text : List ℕ) (w : Source) (c : Cursor ℕ) (members : Members) (last : Token) (others : List Passed) →
    PassesKey now (Some text) mid → StandsAmong now w c members last others → IsKeyPassed mid w c members last others text
first-passed now mid text w c members last others k s =
    let m = at-key now mid k.0 text w _ (scalar last) members k.2 k.1 (at-members now w c members last others s) in
    let here = subst (λ ms. StandsAmong now w c ms last others) m.are s in
    subst (λ ms. IsKeyPassed mid w c ms last others text) (sym m.are)
    (key-passed now mid text w c m.key m.mark m.value m.rest last others k.0 k.2 m.named here)

-- ---- a search

module _ (name : List ℕ) where
  pub search-begins : (old : Now) → IsSearching name old old
  search-begins old = record {
    left = λ w c members last others s. record { rest = members; same = refl; cursor = c; among = s; counts = refl; kept = λ point spot e. e };
    passed = no_other;
    keeps = goes-keeps old old (stays-put old);
    inside = λ start is. is;
  }

  -- The first member decides, by its key.
  key-decides : (buffer : List ℕ) (key mark : Token) (value : Node) (rest : Members) (text : List ℕ) (is : Bool) →
      text_in_tree (meaning buffer key) ≡ Some text → bytes_eq text name ≡ is →
      from_key name buffer (member key mark value rest) ≡ (if is then member key mark value rest else from_key name buffer rest)
  key-decides buffer key mark value rest text is named decided =
      ap (λ o. if names_key name o then member key mark value rest else from_key name buffer rest) named
      ∙ ap (λ b. if b then member key mark value rest else from_key name buffer rest) decided

  other-text : (text : List ℕ) → bytes_eq text name ≡ false → text ≢ name
  other-text text other same = let is : bytes_eq text name ≡ true = (bytes_eq-Decides text name).1 same in cc

  -- A member of another key is passed.
  pub other-passed : (old now mid new : Now) (text : List ℕ) → IsSearching name old now → PassesKey now (Some text) mid → PassesNextKey now (Some text) mid →
      bytes_eq text name ≡ false → PassesKeyInside now mid → GoesOn now mid → IsRead anything mid tt new → KeepsOn mid new → PassesValue mid new →
      IsSearching name old new
  other-passed old now mid new text s k next other inside goes read keeps one = record {
    left = λ w c members last others before.
        let l = s.left w c members last others before in
        let m = first-passed now mid text w l.cursor l.rest last others k l.among in
        let after = (read w _ m.value m.before).1 in
        let there = ap (λ (spot : Spot ℕ). spot.place) after.there in
        record {
          rest = m.rest;
          same = l.same ∙ ap (from_key name w.bytes) m.are ∙ key-decides w.bytes m.key m.mark m.value m.rest text false m.named other;
          cursor = after.cursor;
          among = record {
            stands = after.stands;
            free = after.free;
            comes =
                ap (λ place. drop place w.events) there ∙ drop-node w (suc l.cursor.spot.place) m.value m.before.others m.before.comes ∙ m.comes;
            values = m.values;
            meant = m.meant;
          };
          counts =
              let one = m.counts in
              let all = l.counts in
              omega (arith, there, one, all);
          kept = λ point spot e. after.kept point spot (l.kept point spot e);
        };
    passed = one_more now mid new text s.passed next (other-text text other) one;
    keeps = keeps-then old now new s.keeps (keeps-then now mid new (goes-keeps now mid goes) keeps);
    inside = λ start is. inside-value object start mid new (inside.0 start (s.inside start is)) keeps.input one;
  }

  -- The key is passed.
  pub key-found : (old now mid : Now) (text : List ℕ) → IsSearching name old now → PassesKey now (Some text) mid → bytes_eq text name ≡ true →
      FindsKey name old true mid
  key-found old now mid text s k same w c members last others before =
      let l = s.left w c members last others before in
      let m = first-passed now mid text w l.cursor l.rest last others k l.among in
      record {
        key = m.key;
        mark = m.mark;
        value = m.value;
        rest = m.rest;
        first = l.same ∙ ap (from_key name w.bytes) m.are ∙ key-decides w.bytes m.key m.mark m.value m.rest text true m.named same;
        cursor = _;
        before = m.before;
        comes = m.comes;
        values = m.values;
        meant = m.meant;
        kept = l.kept;
      }

  -- The object's end is passed.
  pub none-found : (old now new : Now) → IsSearching name old now → PassesKey now None new → FindsKey name old false new
  unfolding walk_members
  none-found old now new s k w c members last others before =
      let l = s.left w c members last others before in
      let end = at-end now new k.0 w _ (scalar last) l.rest k.2 k.1 (at-members now w l.cursor l.rest last others l.among) in
      let passed = k.2 w l.cursor l.among.stands l.among.free in
      let none : length (walk_members w.bytes l.rest) ≡ 0 = ap (λ ms. length (walk_members w.bytes ms)) end.0 in
      let all = l.counts in
      record {
        none = l.same ∙ ap (from_key name w.bytes) end.0;
        cursor = at_spot l.cursor (unpeeked (suc l.cursor.spot.place));
        stands = passed.stands;
        free = l.among.free;
        there = ap unpeeked (omega (arith, none, all));
        kept = l.kept;
      }

  -- ---- where it is refused

  -- No key was read.
  pub no-key : (old now : Now) (r : Refusal) → IsSearching name old now → LacksKey now r → LacksMembers old r
  unfolding at-members
  no-key old now r s k w c members last others before =
      let l = s.left w c members last others before in
      let first = key-comes now w _ (scalar last) l.rest (at-members now w l.cursor l.rest last others l.among) in
      k.lacks w l.cursor first.first l.among.stands l.among.free first.at first.is

  -- A value was not passed.
  pub no-value : (old now mid : Now) (text : List ℕ) (r : Refusal) → IsSearching name old now → PassesKey now (Some text) mid → IsUnread anything mid r →
      LacksMembers old r
  no-value old now mid text r s k unread w c members last others before =
      let l = s.left w c members last others before in
      let m = first-passed now mid text w l.cursor l.rest last others k l.among in
      elim (unread w _ m.value m.before) [
        | inl lacks ↦ lacks
        | inr none ↦ cc
      ]
