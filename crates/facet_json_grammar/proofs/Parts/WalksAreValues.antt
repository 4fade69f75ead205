-- The walk of a value is one value: its opening bracket is closed by its last event.
use Rattle.std.proofs.Common.{◌≡◌, ℕ, true, false, suc, ◌+◌, List, [], ◌∷◌, ◌++◌, length, drop, refl, sym, ap, ◌∙◌, arith}
use Rattle.std.proofs.Math.Seq.{drop-append_seam}
use Rattle.std.proofs.lemmas.List.{append_assoc, length-append}
use Rattle.facet_format.specs.Event.{Passed}
use Rattle.facet_format.specs.Event as event
use Rattle.facet_format.specs.Part.{value, Source, last_of, depth_after, closing_len, part_of, value_up_to, part_at}
use Rattle.facet_format.specs.Span.{Span, stop}
use Rattle.facet_json_token.specs.Token.{Token}
use Rattle.facet_json_grammar.specs.Node.{Node, scalar, array, object, Nodes, no_nodes, item, Members, no_members, member}
use Rattle.facet_json_grammar.specs.UnreadLaws.{WalkIsOneValue}
use Rattle.facet_json_grammar.specs.Walk.{walk, walk_items, walk_members, event_at, key_event, scalar_event}
use Rattle.facet_json_grammar.proofs.Parts.PlacesOnWalk.{is-there}

-- ---- events that close as many brackets as they open

-- However many brackets are open, these events leave them open.
abbrev IsBalanced : List Passed → Type 0
IsBalanced ps = (n : ℕ) (after : List Passed) → closing_len (suc n) (ps ++ after) ≡ length ps + closing_len (suc n) after

-- No events are balanced.
none-balanced : IsBalanced []
none-balanced n after = omega arith

-- So are balanced events after one that opens and closes nothing.
event-balanced : (p : Passed) (ps : List Passed) → ((n : ℕ) → depth_after (suc n) p.event.kind ≡ suc n) → IsBalanced ps →
    IsBalanced (p ∷ ps)
event-balanced p ps same rest n after =
    ap (λ depth. suc (closing_len depth (ps ++ after))) (same n) ∙ ap suc (rest n after) ∙ omega arith

-- So are balanced events after balanced ones.
both-balanced : (a b : List Passed) → IsBalanced a → IsBalanced b → IsBalanced (a ++ b)
both-balanced a b here there n after =
    ap (closing_len (suc n)) (append_assoc a b after) ∙ here n (b ++ after) ∙ ap (λ k. length a + k) (there n after)
    ∙ omega (arith, length-append a b)

-- After balanced events a closing bracket's closes the innermost bracket.
inside-closed : (n : ℕ) (inner : List Passed) (end : Passed) (after : List Passed) → depth_after (suc n) end.event.kind ≡ n →
    IsBalanced inner → closing_len (suc n) (inner ++ end ∷ after) ≡ suc (length inner) + closing_len n after
inside-closed n inner end after down balanced =
    balanced n (end ∷ after) ∙ ap (λ depth. length inner + suc (closing_len depth after)) down ∙ omega arith

-- An opening bracket's event, balanced ones and a closing bracket's are balanced.
brackets-balanced : (start end : Passed) (inner : List Passed) → ((n : ℕ) → depth_after (suc n) start.event.kind ≡ suc (suc n)) →
    ((n : ℕ) → depth_after (suc n) end.event.kind ≡ n) → IsBalanced inner → IsBalanced (start ∷ inner ++ end ∷ [])
brackets-balanced start end inner up down balanced n after =
    ap (λ depth. suc (closing_len depth ((inner ++ end ∷ []) ++ after))) (up n)
    ∙ ap (λ ps. suc (closing_len (suc (suc n)) ps)) (append_assoc inner (end ∷ []) after)
    ∙ ap suc (inside-closed (suc n) inner end after (down (suc n)) balanced)
    ∙ omega (arith, length-append inner (end ∷ []))

module _ (buffer : List ℕ) where
  mutual
    unfolding walk

    -- The events of a value are balanced.
    node-balanced : (node : Node) → IsBalanced (walk buffer node)
    node-balanced (scalar t) = event-balanced (scalar_event buffer t) [] (λ n. refl) none-balanced
    node-balanced (array first last nodes) =
        brackets-balanced (event_at (event.sequence_start event.array) first) (event_at event.sequence_end last) _ (λ n. refl)
        (λ n. omega arith) (items-balanced nodes)
    node-balanced (object first last members) =
        brackets-balanced (event_at (event.struct_start event.object) first) (event_at event.struct_end last) _ (λ n. refl)
        (λ n. omega arith) (members-balanced members)

    -- So are those of the items of a list.
    items-balanced : (nodes : Nodes) → IsBalanced (walk_items buffer nodes)
    items-balanced no_nodes = none-balanced
    items-balanced (item node nodes) = both-balanced _ _ (node-balanced node) (items-balanced nodes)

    -- So are those of the members of an object.
    members-balanced : (members : Members) → IsBalanced (walk_members buffer members)
    members-balanced no_members = none-balanced
    members-balanced (member key mark node members) =
        event-balanced (key_event buffer key mark) _ (λ n. refl) (both-balanced _ _ (node-balanced node) (members-balanced members))

-- ---- among other events

-- The last token of an event is the last one before the place after it.
last-there : (before after : List Passed) (p : Passed) → last_of (before ++ p ∷ after) (suc (length before)) ≡ p.last
last-there [] after p = refl
last-there (q ∷ before) after p = last-there before after p

-- The last token of brackets is the last one before the place after them.
brackets-end : (start end : Passed) (before inner after : List Passed) → let ps = start ∷ inner ++ end ∷ [] in
    last_of (before ++ (ps ++ after)) (length before + length ps) ≡ end.last
brackets-end start end before inner after =
    let ps = start ∷ inner ++ end ∷ [] in
    let first = before ++ start ∷ inner in
    let parted = ap (λ xs. before ++ start ∷ xs) (append_assoc inner (end ∷ []) after) ∙ sym (append_assoc before (start ∷ inner) (end ∷ after)) in
    let to : length before + length ps ≡ suc (length first) = omega (arith, length-append inner (end ∷ []), length-append before (start ∷ inner)) in
    ap (λ xs. last_of xs (length before + length ps)) parted ∙ ap (last_of (first ++ end ∷ after)) to ∙ last-there first after end

-- After an opening bracket's event the balanced ones and the closing bracket's close it.
brackets-close : (end : Passed) (inner after : List Passed) → depth_after 1 end.event.kind ≡ 0 → IsBalanced inner →
    closing_len 1 ((inner ++ end ∷ []) ++ after) ≡ suc (length inner)
brackets-close end inner after down balanced =
    ap (closing_len 1) (append_assoc inner (end ∷ []) after) ∙ inside-closed 0 inner end after down balanced ∙ omega arith

module _ (buffer : List ℕ) where
  -- the input, with these events
  abbrev with_events : List Passed → Source
  with_events events = record { bytes = buffer; events = events }

  -- What stands at an event after others is the event's.
  part-there : (before others : List Passed) (p : Passed) → let w = with_events (before ++ p ∷ others) in
      part_at w (length before) ≡ part_of w p (suc (length before)) p.event.kind
  part-there before others p =
      let at = is-there (before ++ p ∷ others) (length before) p others (drop-append_seam before (p ∷ others)) in
      let there = at.there in
      rw there refl

  -- A scalar is one value.
  scalar-there : (t : Token) (before after : List Passed) →
      part_at (with_events (before ++ scalar_event buffer t ∷ after)) (length before)
      ≡ value false t.span.offset (stop t.span) (length before + 1)
  scalar-there t before after =
      let p = scalar_event buffer t in
      let n = length before in
      part-there before after p ∙ ap (λ (s : Span). value false t.span.offset (stop s) (suc n)) (last-there before after p)
      ∙ ap (value false t.span.offset (stop t.span)) (omega arith)

  -- Brackets are one value, with the balanced events between them.
  brackets-there : (start end : Passed) (before inner after : List Passed) →
      let ps = start ∷ inner ++ end ∷ [] in let w = with_events (before ++ (ps ++ after)) in
      ((n : ℕ) → part_of w start n start.event.kind ≡ value_up_to w true start (n + closing_len 1 (drop n w.events))) →
      depth_after 1 end.event.kind ≡ 0 → IsBalanced inner →
      part_at w (length before) ≡ value true start.event.span.offset (stop end.last) (length before + length ps)
  brackets-there start end before inner after opens down balanced =
      let ps = start ∷ inner ++ end ∷ [] in
      let events = before ++ (ps ++ after) in
      let others = (inner ++ end ∷ []) ++ after in
      let n = length before in
      let at = is-there events n start others (drop-append_seam before (start ∷ others)) in
      let count = ap (closing_len 1) at.behind ∙ brackets-close end inner after down balanced in
      let finish : suc n + closing_len 1 (drop (suc n) events) ≡ n + length ps = omega (arith, length-append inner (end ∷ [])) in
      part-there before others start ∙ opens (suc n) ∙ ap (value_up_to (with_events events) true start) finish
      ∙ ap (λ (s : Span). value true start.event.span.offset (stop s) (n + length ps)) (brackets-end start end before inner after)

-- Wherever the walk of a value stands among events, what stands at its first event is this value.
pub walk_is_one_value : WalkIsOneValue
unfolding walk
walk_is_one_value buffer (scalar t) before after = scalar-there buffer t before after
walk_is_one_value buffer (array first last nodes) before after =
    brackets-there buffer (event_at (event.sequence_start event.array) first) (event_at event.sequence_end last) before _ after (λ n. refl) refl
    (items-balanced buffer nodes)
walk_is_one_value buffer (object first last members) before after =
    brackets-there buffer (event_at (event.struct_start event.object) first) (event_at event.struct_end last) before _ after (λ n. refl) refl
    (members-balanced buffer members)
