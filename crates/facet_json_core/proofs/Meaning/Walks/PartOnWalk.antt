-- What stands at a node's place on a walk, its text unread.
use Rattle.std.proofs.Common.{◌≡◌, ℕ, zero, suc, ◌+◌, List, [], ◌∷◌, ◌++◌, length, take, drop, refl, sym, ap, ◌∙◌}
use Rattle.std.proofs.lemmas.List.{take-append-drop}
use Rattle.facet_format.specs.Event.{Passed}
use Rattle.facet_format.specs.Cursor.{Cursor}
use Rattle.facet_format.specs.Part.{Source, Part, value, part_at}
use Rattle.facet_format.specs.Span.{stop}
use Rattle.facet_json_grammar.specs.Node.{Node}
use Rattle.facet_json_grammar.specs.RunLaws.{last_token_of}
use Rattle.facet_json_grammar.specs.UnreadLaws.{first_token, is_container}
use Rattle.facet_json_grammar.specs.Walk.{walk}
use Rattle.facet_json_grammar.proofs.Parts.WalksAreValues.{walk_is_one_value}
use Rattle.facet_json_grammar.specs.Now.{Now}
use Rattle.facet_json_core.specs.Meaning.Nodes.{StandsBefore}
use Rattle.facet_json_core.proofs.Meaning.Leaves.LeafReadings.{walk-first}

-- A place from which something comes is as many events behind the start.
place-length : (events : List Passed) (place : ℕ) (first : Passed) (others : List Passed) → drop place events ≡ first ∷ others →
    length (take place events) ≡ place
place-length [] zero first others e = refl
place-length [] (suc place) first others e = cc
place-length (p ∷ events) zero first others e = refl
place-length (p ∷ events) (suc place) first others e = ap suc (place-length events place first others e)

-- the node's value, as a part of the walk
abbrev pub part_of_node : List ℕ → Node → ℕ → Part ℕ
part_of_node buffer node place =
    value (is_container node) (first_token node).span.offset (stop (last_token_of node).span) (place + length (walk buffer node))

-- Before a node, the node's value stands there.
pub node-there : (w : Source) (place : ℕ) (node : Node) (others : List Passed) → drop place w.events ≡ walk w.bytes node ++ others →
    part_at w place ≡ part_of_node w.bytes node place
node-there w place node others comes =
    let first = walk-first w.bytes node others in
    let front = take place w.events in
    let len : length front ≡ place = place-length w.events place first.first first.others (comes ∙ first.are) in
    let whole : front ++ (walk w.bytes node ++ others) ≡ w.events =
    ap (λ rest. front ++ rest) (sym comes) ∙ take-append-drop place w.events in
    ap (part_at w) (sym len)
    ∙ ap (λ events. part_at (record { bytes = w.bytes; events = events }) (length front)) (sym whole)
    ∙ walk_is_one_value w.bytes node front others ∙ ap (part_of_node w.bytes node) len

-- Where the parser stands before a node, the part that stands there is the node's value.
pub part-is_node : (now : Now) (w : Source) (c : Cursor ℕ) (node : Node) → StandsBefore now w c node → (part : Part ℕ) →
    part ≡ part_at w c.spot.place → part ≡ part_of_node w.bytes node c.spot.place
part-is_node now w c node before part is = is ∙ node-there w c.spot.place node before.others before.comes
