use Rattle.std.proofs.Common.{◌≡◌, ◌≤◌, List, ℕ, ◌++◌, drop}
use Rattle.std.specs.Fmt.{HasWritten, IsPlainFormatter}
use Rattle.std.specs.List.{flat_map, slice_range}
use Rattle.std.specs.Str.{IsCharBoundary}
use Rattle.facet_json_grammar.specs.Quoted.{escaped}
use Rattle.facet_json_tree.proofs.display.show_content.Given as goal

abbrev pub invariant-loop-at : goal.invariant-loop-at
invariant-loop-at g l =
    (l.start ≤ l.at) × IsCharBoundary l.fn.text l.start × (done : List ℕ)
    × (done ++ (slice_range l.fn.text l.start l.at ++ flat_map escaped (drop l.at l.fn.text)) ≡ flat_map escaped l.fn.text)
    × (IsPlainFormatter l.initial.f → HasWritten g.W.Write.write_str_gives l.initial.f done l.f)
