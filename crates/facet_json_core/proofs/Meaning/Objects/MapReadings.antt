-- How a map is read: its members one by one.
use Rattle.std.specs.Prelude.{ℕ, List}
use Rattle.std.specs.Option.{option_and_then}
use Rattle.std.proofs.Common.{◌≡◌, inl, inr, ℕ, List, [], Option, None, Some, refl, ap, ◌∙◌}
use Rattle.facet_format.specs.Complaint.{Refusal}
use Rattle.facet_format.specs.Cursor.{Cursor}
use Rattle.facet_format.specs.Part.{Source}
use Rattle.facet_json_token.specs.Token.{Token}
use Rattle.facet_json_grammar.specs.Node.{Node, scalar, Members, no_members, member}
use Rattle.facet_json_grammar.specs.Node as node
use Rattle.facet_json_grammar.specs.Meaning.{text_in_tree, meaning}
use Rattle.facet_json_grammar.specs.Now.{Now}
use Rattle.facet_json_core.specs.Meaning.Nodes.{StandsBefore}
use Rattle.facet_json_core.specs.Meaning.Reading.{IsRead, IsUnread}
use Rattle.facet_json_core.specs.Meaning.Objects.{members_of, BeginsObject, IsNoObject, PassesKey, LacksKey}
use Rattle.facet_json_core.specs.Meaning.Maps.{Entries, with_entry, with_members, map_of}
use Rattle.facet_json_core.proofs.Meaning.Objects.MembersOnWalk.{AtMembers, object-begins, at-key, key-comes, at-end}

-- ---- what is left of a map

module _ {V : Type 0} (reading : List ℕ → Node → Option V) where
  -- Of the node before which the parser stood these entries were read, and it stands before the members that are left.
  pub record LeftMembers (entries : Entries V) (now : Now) (w : Source) (c : Cursor ℕ) (n : Node) : Type 0 where
    pub members : Members
    pub is : map_of reading w.bytes n ≡ with_members reading w.bytes members entries
    pub at : AtMembers now w c n members

  pub record IsLeft (old : Now) (entries : Entries V) (now : Now) : Type 0 where
    pub left : (w : Source) (c : Cursor ℕ) (n : Node) → StandsBefore old w c n → LeftMembers entries now w c n

  map-begun : (w : Source) (n : Node) (inner : Members) → members_of w.bytes n ≡ Some inner →
      map_of reading w.bytes n ≡ with_members reading w.bytes inner []
  map-begun w (scalar t) inner is = cc
  map-begun w (node.array first last nodes) inner is = cc
  map-begun w (node.object first last inside) inner is =
      let same : inside ≡ inner = cc in ap (λ m. with_members reading w.bytes m []) same

  -- At the beginning of an object all are.
  pub map-begins : (old new : Now) → BeginsObject old new → IsLeft old [] new
  map-begins old new b = record {
    left = λ w c n before.
        let at = object-begins old new b w c n before in
        record { members = at.members; is = map-begun w n at.members at.is; at = at.at };
  }

  no-map : (buffer : List ℕ) (n : Node) → members_of buffer n ≡ None → map_of reading buffer n ≡ None
  no-map buffer (scalar t) is = refl
  no-map buffer (node.array first last nodes) is = refl
  no-map buffer (node.object first last inside) is = cc

  -- Where no object begins, no map is read.
  pub map-not_begun : (old : Now) (r : Refusal) → IsNoObject old r → IsUnread (map_of reading) old r
  map-not_begun old r none w c n before = elim (none w c n before) [
    | inl lacks ↦ inl lacks
    | inr is ↦ inr (no-map w.bytes n is)
  ]

  -- With the first member's entry the others' are put in.
  pub first-is : (buffer : List ℕ) (key mark : Token) (value : Node) (rest : Members) (entries : Entries V) (name : List ℕ) (o : Option V) →
      text_in_tree (meaning buffer key) ≡ Some name → reading buffer value ≡ o →
      with_members reading buffer (member key mark value rest) entries ≡ option_and_then (λ v. with_members reading buffer rest (with_entry entries name v)) o
  first-is buffer key mark value rest entries name o named is =
      ap (λ k. option_and_then (λ k. option_and_then (λ v. with_members reading buffer rest (with_entry entries k v)) (reading buffer value)) k) named
      ∙ ap (option_and_then (λ v. with_members reading buffer rest (with_entry entries name v))) is

  -- A member was read.
  pub map-goes_on : (old now mid new : Now) (entries : Entries V) (name : List ℕ) (v : V) → IsLeft old entries now → PassesKey now (Some name) mid →
      IsRead reading mid v new → IsLeft old (with_entry entries name v) new
  map-goes_on old now mid new entries name v l k read = record {
    left = λ w c n before.
        let left = l.left w c n before in
        let m = at-key now mid k.0 name w c n left.members k.2 k.1 left.at in
        let value = read w m.cursor m.value m.before in
        record {
          members = m.rest;
          is = left.is ∙ ap (λ ms. with_members reading w.bytes ms entries) m.are ∙ first-is w.bytes m.key m.mark m.value m.rest entries name (Some v) m.named value.0;
          at = m.past new value.1;
        };
  }

  -- A member's value was not read.
  pub map-no_value : (old now mid : Now) (entries : Entries V) (name : List ℕ) (r : Refusal) → IsLeft old entries now → PassesKey now (Some name) mid →
      IsUnread reading mid r → IsUnread (map_of reading) old r
  map-no_value old now mid entries name r l k unread w c n before =
      let left = l.left w c n before in
      let m = at-key now mid k.0 name w c n left.members k.2 k.1 left.at in
      elim (unread w m.cursor m.value m.before) [
        | inl lacks ↦ inl lacks
        | inr none ↦ inr (left.is ∙ ap (λ ms. with_members reading w.bytes ms entries) m.are ∙ first-is w.bytes m.key m.mark m.value m.rest entries name None m.named none)
      ]

  -- No key was read.
  pub map-no_key : (old now : Now) (entries : Entries V) (r : Refusal) → IsLeft old entries now → LacksKey now r → IsUnread (map_of reading) old r
  map-no_key old now entries r l k w c n before =
      let left = l.left w c n before in
      let first = key-comes now w c n left.members left.at in
      inl (k.lacks w left.at.cursor first.first left.at.stands left.at.free first.at first.is)

  -- At the end of an object its entries are read.
  pub map-ends : (old now new : Now) (entries : Entries V) → IsLeft old entries now → PassesKey now None new → IsRead (map_of reading) old entries new
  map-ends old now new entries l k w c n before =
      let left = l.left w c n before in
      let end = at-end now new k.0 w c n left.members k.2 k.1 left.at in
      (left.is ∙ ap (λ ms. with_members reading w.bytes ms entries) end.0, end.1)
