-- The content from here on ends where the whole content ends, the backslashes before are seen, and here is no plain byte.
use Rattle.std.proofs.Common.{◌≡◌, ℕ, ◌+◌, ◌-◌, ◌≤◌, true, false, eqb, length, take, drop, slice_get, Some}
use Rattle.std.specs.Option.{option_map}
use Rattle.std.specs.List.{list_any}
use Rattle.facet_json_token.specs.Cut.{content_len}
use Rattle.facet_json_token.specs.Inner.Window.{is_stop}
use Rattle.facet_json_token.proofs.cutting.cut_text.Given as goal

abbrev pub invariant-loop-byte : goal.invariant-loop-byte
invariant-loop-byte l =
    record {
      ahead : l.start ≤ l.end;
      within : l.end ≤ length l.buffer;
      stops : (b : ℕ) → slice_get l.buffer l.end ≡ Some b → is_stop b ≡ true;
      same : option_map (λ n. l.end + n) (content_len false (drop l.end l.buffer)) ≡ option_map (λ n. l.start + n)
          (content_len false (drop l.start l.buffer));
      seen : l.has_escapes ≡ list_any (λ b. eqb b 0x5c) (take (l.end - l.start) (drop l.start l.buffer));
    }

abbrev pub decreases-loop-byte : goal.decreases-loop-byte
decreases-loop-byte l = length l.buffer - l.end
