-- Values that may be null: how they are read after a look ahead.
use Rattle.std.specs.Prelude.{ℕ, ◌+◌, suc, List, cond, drop, length}
use Rattle.std.specs.Option.{option_map}
use Rattle.std.proofs.Common.{◌≡◌, inl, inr, false, Option, None, Some, sym, ap, ◌∙◌, arith}
use Rattle.facet_format.specs.Complaint.{Refusal}
use Rattle.facet_format.specs.Cursor.{Cursor, Spot, at_spot, unpeeked}
use Rattle.facet_format.specs.Part.{Source}
use Rattle.facet_json_grammar.specs.Node.{Node}
use Rattle.facet_json_grammar.specs.Now.{Now}
use Rattle.facet_json_core.specs.Meaning.Nodes.{StandsBefore, StandsAfter}
use Rattle.facet_json_core.specs.Meaning.Optional.{is_null_node, is_null_event, optional}
use Rattle.facet_json_core.specs.Meaning.Taking.{Takes, StaysThere, StaysBefore}
use Rattle.facet_json_grammar.specs.Walk.{walk}
use Rattle.facet_json_core.specs.Meaning.Reading.{IsRead, IsUnread}
use Rattle.facet_json_core.proofs.Meaning.Walks.FirstEvents.{first_event, first-stands, null-first, null-one}

-- A node is found to be another where it is.
other-node : (old between : Now) (w : Source) (c : Cursor ℕ) (n : Node) (before : StandsBefore old w c n) →
    StaysThere is_null_event w c (first_event w.bytes n) between → is_null_node n ≡ false
other-node old between w c n before stays = sym (null-first w.bytes n before.value before.meant) ∙ stays.other

-- Where the parser stays, it still stands before the node.
still-before : (old between : Now) (w : Source) (c : Cursor ℕ) (n : Node) (before : StandsBefore old w c n)
    (stays : StaysThere is_null_event w c (first_event w.bytes n) between) → StandsBefore between w (at_spot c stays.spot) n
still-before old between w c n before stays = record {
  stands = stays.stands;
  free = before.free;
  others = before.others;
  comes = ap (λ (k : ℕ). drop k w.events) stays.place ∙ before.comes;
  value = before.value;
  meant = before.meant;
}

-- Where it stands after the node from there, it does from the other.
after-stay : (new : Now) (w : Source) (c : Cursor ℕ) (n : Node) (spot : Spot ℕ) → spot.place ≡ c.spot.place → StandsAfter new w (at_spot c spot) n →
    StandsAfter new w c n
after-stay new w c n spot same after = record {
  cursor = after.cursor;
  stands = after.stands;
  free = after.free;
  there = after.there ∙ ap (λ (k : ℕ). unpeeked (k + length (walk w.bytes n))) same;
  kept = after.kept;
}

module _ {V : Type 0} (reading : List ℕ → Node → Option V) where
  pub null-read : (old new : Now) → Takes is_null_event old new → IsRead (optional reading) old None new
  null-read old new takes w c n before =
      let t = takes w c (first_event w.bytes n) before.stands before.free (first-stands old w c n before) in
      let is = sym (null-first w.bytes n before.value before.meant) ∙ t.so in (
        ap (λ b. cond b (Some None) (option_map Some (reading w.bytes n))) is,
        record {
          cursor = at_spot c (unpeeked (suc c.spot.place));
          stands = t.stands;
          free = before.free;
          there = ap unpeeked (omega (arith, null-one w.bytes n is));
          kept = λ point spot e. e;
        },
      )

  pub value-read : (old between new : Now) (v : V) → StaysBefore is_null_event old between → IsRead reading between v new →
      IsRead (optional reading) old (Some v) new
  value-read old between new v stays read w c n before =
      let s = stays.finds w c (first_event w.bytes n) before.stands before.free (first-stands old w c n before) in
      let is = other-node old between w c n before s in
      let r = read w (at_spot c s.spot) n (still-before old between w c n before s) in (
        ap (λ b. cond b (Some None) (option_map Some (reading w.bytes n))) is ∙ ap (option_map Some) r.0,
        after-stay new w c n s.spot s.place r.1,
      )

  pub value-unread : (old between : Now) (r : Refusal) → StaysBefore is_null_event old between → IsUnread reading between r →
      IsUnread (optional reading) old r
  value-unread old between r stays unread w c n before =
      let s = stays.finds w c (first_event w.bytes n) before.stands before.free (first-stands old w c n before) in
      let is = other-node old between w c n before s in
      elim (unread w (at_spot c s.spot) n (still-before old between w c n before s)) [
        | inl lacks ↦ inl lacks
        | inr none ↦
            inr (ap (λ b. cond b (Some None) (option_map Some (reading w.bytes n))) is ∙ ap (option_map Some) none)
      ]
