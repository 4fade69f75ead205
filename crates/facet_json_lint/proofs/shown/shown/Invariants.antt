use Rattle.std.specs.Prelude.{string_bytes}
use Rattle.facet_json_lint.specs.Shown.{IsHarmless}
use Rattle.facet_json_lint.proofs.shown.shown.Given as goal

abbrev pub invariant-loop-chunk : goal.invariant-loop-chunk
invariant-loop-chunk l = IsHarmless (string_bytes l.text)
