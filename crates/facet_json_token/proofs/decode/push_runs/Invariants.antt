-- What is read so far stands for the text so far, and what is left is UTF-8 where the content is known to be.
use Rattle.std.proofs.Common.{◌≡◌, ◌-◌, ◌≤◌, string_bytes}
use Rattle.std.specs.Prelude.{slice_range, IsUtf8}
use Rattle.facet_json_token.specs.Decode.{Decodes}
use Rattle.facet_json_token.specs.declared.mode.Trust.TheVariants.{Utf8}
use Rattle.facet_json_token.proofs.decode.push_runs.Given as goal

abbrev pub invariant-loop-at : goal.invariant-loop-at
invariant-loop-at l = record {
  ahead : l.start ≤ l.at;
  within : l.at ≤ l.end;
  utf8 : l.trust ≡ Utf8 → IsUtf8 (slice_range l.buf l.at l.end);
  so_far : Decodes (slice_range l.buf l.start l.at) (string_bytes l.text);
}

abbrev pub decreases-loop-at : goal.decreases-loop-at
decreases-loop-at l = l.end - l.at
