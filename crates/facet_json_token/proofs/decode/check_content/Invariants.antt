-- What is read so far stands for some text.
use Rattle.std.proofs.Common.{◌-◌, ◌≤◌, ℕ, List}
use Rattle.std.specs.Prelude.{slice_range}
use Rattle.facet_json_token.specs.Decode.{Decodes}
use Rattle.facet_json_token.proofs.decode.check_content.Given as goal

abbrev pub invariant-loop-at : goal.invariant-loop-at
invariant-loop-at l = record {
  ahead : l.start ≤ l.at;
  within : l.at ≤ l.end;
  so_far : (text : List ℕ) × Decodes (slice_range l.buf l.start l.at) text;
}

abbrev pub decreases-loop-at : goal.decreases-loop-at
decreases-loop-at l = l.end - l.at
