use Rattle.std.proofs.Common.{◌≢◌, All, take}
use Rattle.facet_json.proofs.line_pieces.line_len.Given as goal

abbrev pub invariant-loop-i : goal.invariant-loop-i
invariant-loop-i l = All (λ x. x ≢ 10) (take l.i l.bytes)
