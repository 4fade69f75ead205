-- How an object is read as a list of fields, member by member.
use Rattle.std.specs.Prelude.{ℕ, List}
use Rattle.std.specs.Option.{option_and_then}
use Rattle.std.proofs.Common.{◌≡◌, ◌<◌, ◌≤◌, inl, inr, Option, None, Some, refl, ap, ◌∙◌, arith}
use Rattle.facet_format.specs.Complaint.{Refusal}
use Rattle.facet_format.specs.Cursor.{Cursor}
use Rattle.facet_format.specs.Part.{Source}
use Rattle.facet_format.specs.Span.{Span}
use Rattle.facet_format.specs.Event.{object}
use Rattle.facet_json_token.specs.Token.{Token}
use Rattle.facet_json_grammar.specs.Node.{Node, scalar, Members, member}
use Rattle.facet_json_grammar.specs.Node as node
use Rattle.facet_json_grammar.specs.Meaning.{text_in_tree, meaning}
use Rattle.facet_json_grammar.specs.Now.{Now, ahead, GoesOn}
use Rattle.facet_json_core.specs.Meaning.Nodes.{StandsBefore, KeepsOn}
use Rattle.facet_json_core.specs.Meaning.Objects.{members_of, BeginsObject, IsNoObject, PassesKey, LacksKey}
use Rattle.facet_json_core.specs.Meaning.OneValue.{IsInside}
use Rattle.facet_json_core.specs.Meaning.Reading.{IsRead, IsUnread}
use Rattle.facet_json_core.proofs.Meaning.Keeping.{keeps-then}
use Rattle.facet_json_core.proofs.Meaning.Walks.NextOnWalk.{goes-keeps}
use Rattle.facet_json_core.specs.Refusing.{IsAbout}
use Rattle.facet_json.specs.Fields.{LacksField, Reading, Table, after_members, fields_of}
use Rattle.facet_json_core.proofs.Meaning.Objects.MembersOnWalk.{AtMembers, object-begins, at-key, key-comes, at-end}

module _ {V : Type 0} (t : Table V) (names : List (List ℕ)) where
  -- So much is known of the fields of the node before which the parser stood, and it stands before the members that are left.
  pub record LeftFields (seen : t.Seen) (now : Now) (w : Source) (c : Cursor ℕ) (n : Node) : Type 0 where
    pub members : Members
    pub is : fields_of t names w.bytes n ≡ option_and_then t.ends (after_members (t.step names) w.bytes members seen)
    pub at : AtMembers now w c n members

  pub record IsLeft (old : Now) (seen : t.Seen) (now : Now) : Type 0 where
    pub left : (w : Source) (c : Cursor ℕ) (n : Node) → StandsBefore old w c n → LeftFields seen now w c n

  fields-begun : (w : Source) (n : Node) (inner : Members) → members_of w.bytes n ≡ Some inner →
      fields_of t names w.bytes n ≡ option_and_then t.ends (after_members (t.step names) w.bytes inner t.start)
  fields-begun w (scalar token) inner is = cc
  fields-begun w (node.array first last nodes) inner is = cc
  fields-begun w (node.object first last inside) inner is =
      let same : inside ≡ inner = cc in ap (λ m. option_and_then t.ends (after_members (t.step names) w.bytes m t.start)) same

  -- At the beginning of an object all members are left.
  fields-begin : (old new : Now) → BeginsObject old new → IsLeft old t.start new
  fields-begin old new b = record {
    left = λ w c n before.
        let at = object-begins old new b w c n before in
        record { members = at.members; is = fields-begun w n at.members at.is; at = at.at };
  }

  no-fields : (buffer : List ℕ) (n : Node) → members_of buffer n ≡ None → fields_of t names buffer n ≡ None
  no-fields buffer (scalar token) is = refl
  no-fields buffer (node.array first last nodes) is = refl
  no-fields buffer (node.object first last inside) is = cc

  -- Where no object begins, no fields are read.
  pub fields-not_begun : (old : Now) (r : Refusal) → IsNoObject old r → IsUnread (fields_of t names) old r
  fields-not_begun old r none w c n before = elim (none w c n before) [
    | inl lacks ↦ inl lacks
    | inr is ↦ inr (no-fields w.bytes n is)
  ]

  -- What the first member adds is known before the others.
  first-is : {S : Type 0} (step : List ℕ → S → Reading S) (buffer : List ℕ) (key mark : Token) (value : Node) (rest : Members) (seen : S) (name : List ℕ) (o : Option S) →
      text_in_tree (meaning buffer key) ≡ Some name → step name seen buffer value ≡ o →
      after_members step buffer (member key mark value rest) seen ≡ option_and_then (after_members step buffer rest) o
  first-is step buffer key mark value rest seen name o named is =
      ap (λ k. option_and_then (λ k. option_and_then (after_members step buffer rest) (step k seen buffer value)) k) named
      ∙ ap (option_and_then (after_members step buffer rest)) is

  -- A member was read.
  fields-goes_on : (old now mid new : Now) (seen more : t.Seen) (name : List ℕ) → IsLeft old seen now → PassesKey now (Some name) mid →
      IsRead (t.step names name seen) mid more new → IsLeft old more new
  fields-goes_on old now mid new seen more name l k read = record {
    left = λ w c n before.
        let left = l.left w c n before in
        let m = at-key now mid k.0 name w c n left.members k.2 k.1 left.at in
        let value = read w m.cursor m.value m.before in
        record {
          members = m.rest;
          is = left.is ∙ ap (λ ms. option_and_then t.ends (after_members (t.step names) w.bytes ms seen)) m.are
              ∙ ap (option_and_then t.ends) (first-is (t.step names) w.bytes m.key m.mark m.value m.rest seen name (Some more) m.named value.0);
          at = m.past new value.1;
        };
  }

  -- A member's value was not read.
  pub fields-no_value : (old now mid : Now) (seen : t.Seen) (name : List ℕ) (r : Refusal) → IsLeft old seen now → PassesKey now (Some name) mid →
      IsUnread (t.step names name seen) mid r → IsUnread (fields_of t names) old r
  fields-no_value old now mid seen name r l k unread w c n before =
      let left = l.left w c n before in
      let m = at-key now mid k.0 name w c n left.members k.2 k.1 left.at in
      elim (unread w m.cursor m.value m.before) [
        | inl lacks ↦ inl lacks
        | inr none ↦ inr (left.is ∙ ap (λ ms. option_and_then t.ends (after_members (t.step names) w.bytes ms seen)) m.are ∙ ap (option_and_then t.ends) (first-is (t.step names) w.bytes m.key m.mark m.value m.rest seen name None m.named none))
      ]

  -- No key was read.
  pub fields-no_key : (old now : Now) (seen : t.Seen) (r : Refusal) → IsLeft old seen now → LacksKey now r → IsUnread (fields_of t names) old r
  fields-no_key old now seen r l k w c n before =
      let left = l.left w c n before in
      let first = key-comes now w c n left.members left.at in
      inl (k.lacks w left.at.cursor first.first left.at.stands left.at.free first.at first.is)

  -- At the end of an object its fields are read, where none is missing.
  pub fields-end : (old now new : Now) (seen : t.Seen) (v : V) → IsLeft old seen now → PassesKey now None new → t.ends seen ≡ Some v →
      IsRead (fields_of t names) old v new
  fields-end old now new seen v l k full w c n before =
      let left = l.left w c n before in
      let end = at-end now new k.0 w c n left.members k.2 k.1 left.at in
      (left.is ∙ ap (λ ms. option_and_then t.ends (after_members (t.step names) w.bytes ms seen)) end.0 ∙ full, end.1)

  pub fields-missing : (old now new : Now) (seen : t.Seen) (r : Refusal) → IsLeft old seen now → PassesKey now None new → t.ends seen ≡ None →
      IsUnread (fields_of t names) old r
  fields-missing old now new seen r l k missing w c n before =
      let left = l.left w c n before in
      let end = at-end now new k.0 w c n left.members k.2 k.1 left.at in
      inr (left.is ∙ ap (λ ms. option_and_then t.ends (after_members (t.step names) w.bytes ms seen)) end.0 ∙ missing)

  -- ---- an object that is being read

  -- So much is known of the fields of the node before which the parser stood, and the parser is within it.
  pub record IsUnderWay (old : Now) (seen : t.Seen) (now : Now) : Type 0 where
    pub left : IsLeft old seen now
    pub keeps : KeepsOn old now
    pub falls : ahead now < ahead old
    pub inside : IsInside object old now

  pub way-begin : (old new : Now) → BeginsObject old new → GoesOn old new → ahead new < ahead old → IsInside object old new →
      IsUnderWay old t.start new
  way-begin old new begins goes falls inside =
      record { left = fields-begin old new begins; keeps = goes-keeps old new goes; falls = falls; inside = inside }

  pub way-goes_on : (old now mid new : Now) (seen more : t.Seen) (name : List ℕ) → IsUnderWay old seen now → PassesKey now (Some name) mid → GoesOn now mid →
      IsRead (t.step names name seen) mid more new → KeepsOn mid new → IsInside object old new → IsUnderWay old more new
  way-goes_on old now mid new seen more name way passes goes read keeps inside =
      let then = keeps-then now mid new (goes-keeps now mid goes) keeps in
      record {
        left = fields-goes_on old now mid new seen more name way.left passes read;
        keeps = keeps-then old now new way.keeps then;
        falls =
            let one : ahead now < ahead old = way.falls in
            let two : ahead new ≤ ahead now = then.onward in
            omega arith;
        inside = inside;
      }

-- An object is refused for a field that it lacks.
pub missing-about : {bracket : Span} {r : Refusal} → LacksField bracket r → IsAbout bracket r
missing-about (field, is) = (_, refl, is)
