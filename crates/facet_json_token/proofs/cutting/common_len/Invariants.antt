-- So many letters are the same, and the others are compared from here on.
use Rattle.std.proofs.Common.{◌≡◌, ◌+◌, ◌-◌, ◌≤◌, length, drop}
use Rattle.facet_json_token.specs.Cut as spec_cut
use Rattle.facet_json_token.proofs.cutting.common_len.Given as goal

abbrev pub invariant-loop-letter : goal.invariant-loop-letter
invariant-loop-letter l =
    record {
      within : l.at + l.len ≤ length l.buffer;
      same : l.len + spec_cut.common_len (drop l.len l.word) (drop (l.at + l.len) l.buffer) ≡ spec_cut.common_len
          l.word (drop l.at l.buffer);
    }

abbrev pub decreases-loop-letter : goal.decreases-loop-letter
decreases-loop-letter l = length l.word - l.len
