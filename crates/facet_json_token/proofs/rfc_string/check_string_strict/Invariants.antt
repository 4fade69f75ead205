-- The first wrong byte from here on is the one from the start on.
use Rattle.std.proofs.Common.{◌-◌, ◌≡◌, ◌≤◌, length}
use Rattle.facet_json_token.proofs.StringSteps.{wrong_from}
use Rattle.facet_json_token.proofs.rfc_string.check_string_strict.Given as goal

abbrev pub invariant-loop-at : goal.invariant-loop-at
invariant-loop-at l = record {
  ahead : l.start ≤ l.at;
  within : l.at ≤ l.end;
  same : (fits : l.end ≤ length l.buf) → wrong_from l.buf l.end fits l.start ≡ wrong_from l.buf l.end fits l.at;
}

abbrev pub decreases-loop-at : goal.decreases-loop-at
decreases-loop-at l = l.end - l.at
