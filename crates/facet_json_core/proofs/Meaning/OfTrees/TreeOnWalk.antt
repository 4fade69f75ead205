-- Trees on a walk: where a parser passes what events tell, it passes the node that stands there, and what they tell is the node's tree.
use Rattle.std.specs.Prelude.{ℕ, drop, length}
use Rattle.std.proofs.Common.{◌≡◌, inl, ℕ, suc, None, Some, sym, ap, ◌∙◌, subst, arith, length-append}
use Rattle.std.proofs.lemmas.List.{length-drop}
use Rattle.facet_format.specs.Complaint.{Refusal}
use Rattle.facet_format.specs.Cursor.{Cursor, at_spot, unpeeked}
use Rattle.facet_format.specs.Part.{Source}
use Rattle.facet_format.specs.Event.{Event}
use Rattle.facet_json_grammar.specs.Future.{Future, finished, events_before}
use Rattle.facet_json_grammar.specs.Meaning.{tree_of}
use Rattle.facet_json_grammar.specs.Node.{Node}
use Rattle.facet_json_grammar.specs.Tree.{Tree}
use Rattle.facet_json_grammar.specs.Walk.{walk}
use Rattle.facet_json_grammar.proofs.WalkComes.{events_before-append, events_before-same}
use Rattle.facet_json_grammar.specs.Now.{Now, future_of}
use Rattle.facet_json_core.specs.Told.{Tells}
use Rattle.facet_json_core.specs.Reading.{IsValueRead, IsValueUnread}
use Rattle.facet_json_core.proofs.DocumentFromRoot.{read-document}
use Rattle.facet_json_core.proofs.StrictFromRoot.{strict-read}
use Rattle.facet_json_core.proofs.WalkTells.{walk-tells}
use Rattle.facet_json_core.specs.Meaning.Nodes.{StandsBefore, StandsAfter}
use Rattle.facet_json_core.specs.Meaning.Passing.{WalksPast, StandsOnward, MovesOn}
use Rattle.facet_json_core.specs.Meaning.Reading.{IsRead, IsUnread, HasDocument, EndsStrictly}

-- ---- further on

-- A parser that goes on twice goes on.
pub moves_trans : (a b c : Now) → MovesOn a b → MovesOn b c → MovesOn a c
moves_trans a b c first second w cursor stands free =
    let here = first w cursor stands free in
    let there = second w (at_spot cursor (unpeeked here.place)) here.stands free in
    record { place = there.place; stands = there.stands }

-- A parser that passes an event goes on.
pub moves_past : (old new : Now) (given : Event) → WalksPast old given new → MovesOn old new
moves_past old new given walks w c stands free =
    let passed = walks w c stands free in
    record { place = suc c.spot.place; stands = passed.stands }

-- ---- the place after a node

module _ (old : Now) (w : Source) (c : Cursor ℕ) (node : Node) (before : StandsBefore old w c node) where
  -- Before a node, what comes tells the node's tree.
  before-tells : Tells (future_of old) before.value (events_before before.others finished)
  before-tells =
      let comes =
      before.stands.spot.place.comes ∙ ap (λ events. events_before events finished) before.comes
      ∙ events_before-append (walk w.bytes node) before.others finished in
      subst (λ f. Tells f before.value (events_before before.others finished)) (sym comes)
      (walk-tells w.bytes node before.value (events_before before.others finished) before.meant)

  -- Further on, where the others come that come after the node, the parser stands after the node.
  after-node : (new : Now) → future_of new ≡ events_before before.others finished → StandsOnward w c new → StandsAfter new w c node
  after-node new left on =
      let begins = before.stands.spot.place.place_within in
      let ends = on.stands.spot.place.place_within in
      let others = events_before-same (drop on.place w.events) before.others (sym on.stands.spot.place.comes ∙ left) in
      let all = sym (length-drop c.spot.place w.events) ∙ ap length before.comes ∙ length-append (walk w.bytes node) before.others in
      let rest = sym (length-drop on.place w.events) ∙ ap length others in
      record {
        cursor = at_spot c (unpeeked on.place);
        stands = on.stands;
        free = before.free;
        there = ap unpeeked (omega (arith, begins, ends, all, rest));
        kept = λ point spot e. e;
      }

-- ---- what is told

-- What was read of what came, further on, is the tree of the node that stood there, and the parser stands after the node.
pub read_of_told : (old new : Now) (t : Tree) → IsValueRead (future_of old) t (future_of new) → MovesOn old new → IsRead tree_of old t new
read_of_told old new t read moves w c node before =
    let both = read.told before.value (events_before before.others finished) (before-tells old w c node before) in (
      before.meant ∙ ap Some (sym both.0),
      after-node old w c node before new both.1 (moves w c before.stands before.free),
    )

-- What was refused of what came was so before a node for lack of memory alone.
pub unread_of_told : (old : Now) (r : Refusal) → (old.cursor.refusal ≡ None → IsValueUnread old.buffer (future_of old) r) → IsUnread tree_of old r
unread_of_told old r unread w c node before =
    let free : old.cursor.refusal ≡ None = before.stands.refusal ∙ before.free in
    inl ((unread free).told before.value (events_before before.others finished) (before-tells old w c node before))

-- Where a value was read of what came from a new parser, its input has a document.
pub document_of_told : (old : Now) (t : Tree) (behind : Future) → IsValueRead (future_of old) t behind → HasDocument old
document_of_told old t behind read input mode is =
    let root = read-document input mode t behind (subst (λ now. IsValueRead (future_of now) t behind) is read) in
    (root.0, t, root.1)

-- From a new strict parser, and where nothing is left behind the value, its input is a strict document.
pub strict_of_told : (old new : Now) (t : Tree) → IsValueRead (future_of old) t (future_of new) → EndsStrictly old new
strict_of_told old new t read input is over =
    let root = strict-read input t (future_of new) (subst (λ now. IsValueRead (future_of now) t (future_of new)) is read) over in
    (root.0, t, root.1)
