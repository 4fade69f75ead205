use Rattle.std.specs.Prelude.{string_bytes}
use Rattle.facet_json_lint.specs.Shown.{IsHarmless}
use Rattle.facet_json_lint.proofs.shown.push_text.Given as goal

abbrev pub invariant-loop-character : goal.invariant-loop-character
invariant-loop-character l = IsHarmless (string_bytes l.fn.shown) → IsHarmless (string_bytes l.shown)
