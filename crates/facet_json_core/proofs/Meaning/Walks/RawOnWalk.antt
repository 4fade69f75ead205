-- What the parser's answer for a capture says where it stands on a walk.
use Rattle.std.proofs.Common.{◌≡◌, ℕ, Bool, true, false, cond, List, Some, None, Ok, Err, ◌⊎◌, inl, inr, refl, sym, ap, ◌∙◌}
use Rattle.std.specs.Str.{is_utf8}
use Rattle.facet_format.specs.Complaint.{Refusal}
use Rattle.facet_format.specs.Cursor.{Cursor, on_walk, unpeeked, current_span, no_memory_at, capture, Answer, raw, Step, repeats, captures, captures_without_memory, captures_nothing}
use Rattle.facet_format.specs.Part.{Source, capture_of, captured}
use Rattle.facet_format.specs.Steps.{IsStep}
use Rattle.facet_json_grammar.specs.Node.{Node}
use Rattle.facet_json_grammar.specs.RunLaws.{last_token_of}
use Rattle.facet_json_grammar.specs.UnreadLaws.{first_token}
use Rattle.facet_json_grammar.specs.Now.{Now, StandsAt}
use Rattle.facet_json_grammar.specs.SkipLaws.{bytes_between}
use Rattle.facet_json_core.specs.Reading.{LacksMemory}
use Rattle.facet_json_core.specs.Meaning.Nodes.{StandsBefore, StandsAfter}
use Rattle.facet_json_core.specs.Meaning.Reading.{IsRead, IsUnread}
use Rattle.facet_json_core.specs.Meaning.Readings.{raw_of}
use Rattle.facet_json_core.proofs.Meaning.Walks.PartOnWalk.{part-is_node}

-- ---- what is captured

captured-text : (start finish after place : ℕ) (bytes given : List ℕ) (utf8 : Bool) →
    captured start finish after bytes utf8 ≡ Ok (given, place) → (cond utf8 (Some bytes) None ≡ Some given) × (place ≡ after)
captured-text start finish after place bytes given true e =
    let both : (bytes, after) ≡ (given, place) = cc in (ap (λ (x : List ℕ × ℕ). Some x.0) both, sym (ap (λ (x : List ℕ × ℕ). x.1) both))
captured-text start finish after place bytes given false e = cc

captured-none : (start finish after : ℕ) (bytes : List ℕ) (r : Refusal) (utf8 : Bool) →
    captured start finish after bytes utf8 ≡ Err r → cond utf8 (Some bytes) None ≡ None
captured-none start finish after bytes r true e = cc
captured-none start finish after bytes r false e = refl

module _ (w : Source) (c : Cursor ℕ) (node : Node) (old : Now) (before : StandsBefore old w c node) where
  -- the node's bytes
  abbrev bytes : List ℕ
  bytes = bytes_between w.bytes (first_token node) (last_token_of node)

  step-captures : (d : Cursor ℕ) (given : List ℕ) (new : Now) (answer : Answer) → answer ≡ raw (Ok (Some given)) →
      Step (on_walk w) c capture answer d → StandsAt new w d → (raw_of w.bytes node ≡ Some given) × StandsAfter new w c node
  step-captures d given new answer is (repeats s call _ f a) stands = let free = before.free in cc
  step-captures d given new answer is (captures part text place none at what) stands =
      let same : text ≡ given = cc in
      let shown = ap (capture_of w.bytes) (sym (part-is_node old w c node before part at)) ∙ what ∙ ap (λ t. Ok (t, place)) same in
      let both = captured-text _ _ _ place bytes given (is_utf8 bytes) shown in (
        both.0,
        record { cursor = _; stands = stands; free = before.free; there = ap unpeeked both.1; kept = λ point spot e. e },
      )
  step-captures d given new answer is (captures_without_memory part none at has) stands = cc
  step-captures d given new answer is (captures_nothing part r none at what) stands = cc

  step-uncaptured : (d : Cursor ℕ) (r : Refusal) (answer : Answer) → answer ≡ raw (Err r) → Step (on_walk w) c capture answer d →
      LacksMemory r ⊎ (raw_of w.bytes node ≡ None)
  step-uncaptured d r answer is (repeats s call _ f a) = let free = before.free in cc
  step-uncaptured d r answer is (captures part text place none at what) = cc
  step-uncaptured d r answer is (captures_without_memory part none at has) =
      let same : no_memory_at (current_span (on_walk w) c.spot) ≡ r = cc in
      inl (ap (λ (x : Refusal). x.complaint) (sym same))
  step-uncaptured d r answer is (captures_nothing part s none at what) =
      inr (captured-none _ _ _ bytes s (is_utf8 bytes) (ap (capture_of w.bytes) (sym (part-is_node old w c node before part at)) ∙ what))

-- The text that is answered is that of the node before which the parser stood, and it stands after it.
pub answer-captures : (old new : Now) (given : List ℕ) (answer : Answer) → answer ≡ raw (Ok (Some given)) →
    IsStep StandsAt old capture answer new → IsRead raw_of old given new
answer-captures old new given answer is step w c node before =
    let s = step w c before.stands in step-captures w c node old before s.0 given new answer is s.1 s.2

-- Before a node, a refusal is out of memory, or the node's bytes are not UTF-8.
pub answer-uncaptured : (old new : Now) (r : Refusal) (answer : Answer) → answer ≡ raw (Err r) →
    IsStep StandsAt old capture answer new → IsUnread raw_of old r
answer-uncaptured old new r answer is step w c node before =
    let s = step w c before.stands in step-uncaptured w c node old before s.0 r answer is s.1
