-- What the parser's answer for a skip says where it stands on a walk.
use Rattle.std.proofs.Common.{◌≡◌, ℕ, ◌+◌, length, Ok, Err, inl, refl, sym, ap, ◌∙◌}
use Rattle.facet_format.specs.Complaint.{Refusal}
use Rattle.facet_format.specs.Cursor.{Cursor, on_walk, unpeeked, current_span, no_memory_at, skip, Answer, skipped, Step, repeats, skips, skips_without_memory, skips_nothing}
use Rattle.facet_format.specs.Part.{Source, skip_of}
use Rattle.facet_format.specs.Steps.{IsStep}
use Rattle.facet_json_grammar.specs.Node.{Node}
use Rattle.facet_json_grammar.specs.Walk.{walk}
use Rattle.facet_json_grammar.specs.Now.{Now, StandsAt}
use Rattle.facet_json_core.specs.Reading.{LacksMemory}
use Rattle.facet_json_core.specs.Meaning.Nodes.{StandsBefore, StandsAfter}
use Rattle.facet_json_core.specs.Meaning.Reading.{IsRead, IsUnread}
use Rattle.facet_json_core.specs.Meaning.Passing.{anything}
use Rattle.facet_json_core.proofs.Meaning.Walks.PartOnWalk.{part-is_node}

module _ (w : Source) (c : Cursor ℕ) (node : Node) (old : Now) (before : StandsBefore old w c node) where
  step-skips : (d : Cursor ℕ) (new : Now) (answer : Answer) → answer ≡ skipped (Ok tt) → Step (on_walk w) c skip answer d →
      StandsAt new w d → StandsAfter new w c node
  step-skips d new answer is (repeats s call _ f a) stands = let free = before.free in cc
  step-skips d new answer is (skips part place none at what) stands =
      let shown = ap skip_of (sym (part-is_node old w c node before part at)) ∙ what in
      let after : place ≡ c.spot.place + length (walk w.bytes node) = cc in
      record { cursor = _; stands = stands; free = before.free; there = ap unpeeked after; kept = λ point spot e. e }
  step-skips d new answer is (skips_without_memory part none at has) stands = cc
  step-skips d new answer is (skips_nothing part r none at what) stands = cc

  step-unskipped : (d : Cursor ℕ) (r : Refusal) (answer : Answer) → answer ≡ skipped (Err r) → Step (on_walk w) c skip answer d →
      LacksMemory r
  step-unskipped d r answer is (repeats s call _ f a) = let free = before.free in cc
  step-unskipped d r answer is (skips part place none at what) = cc
  step-unskipped d r answer is (skips_without_memory part none at has) =
      let same : no_memory_at (current_span (on_walk w) c.spot) ≡ r = cc in
      ap (λ (x : Refusal). x.complaint) (sym same)
  step-unskipped d r answer is (skips_nothing part s none at what) = let shown = ap skip_of (sym (part-is_node old w c node before part at)) ∙ what in cc

-- A value that is passed is one of the node before which the parser stood, and it stands after it.
pub answer-skips : (old new : Now) (answer : Answer) → answer ≡ skipped (Ok tt) → IsStep StandsAt old skip answer new →
    IsRead anything old tt new
answer-skips old new answer is step w c node before =
    let s = step w c before.stands in (refl, step-skips w c node old before s.0 new answer is s.1 s.2)

-- Before a node, a refusal is out of memory.
pub answer-unskipped : (old : Now) (new : Now) (r : Refusal) (answer : Answer) → answer ≡ skipped (Err r) → IsStep StandsAt old skip answer new →
    IsUnread anything old r
answer-unskipped old new r answer is step w c node before =
    let s = step w c before.stands in inl (step-unskipped w c node old before s.0 r answer is s.1)
