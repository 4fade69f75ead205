use Rattle.std.proofs.Common.{◌≡◌, List, ℕ, ◌++◌, drop}
use Rattle.std.specs.Fmt.{HasWritten, IsPlainFormatter}
use Rattle.facet_json_grammar.specs.Text.{numbers}
use Rattle.facet_json_tree.proofs.Shown.{numbers_after}
use Rattle.facet_json_tree.proofs.display.show_bytes.Given as goal

abbrev pub invariant-loop-byte : goal.invariant-loop-byte
invariant-loop-byte g l =
    (done : List ℕ) × (done ++ numbers_after l.is_first (drop l.byte-index l.fn.bytes) ≡ numbers l.fn.bytes)
    × (IsPlainFormatter l.initial.f → HasWritten g.W.Write.write_str_gives l.initial.f done l.f)
