-- What is appended, and what stands for the rest.
use Rattle.std.proofs.Common.{◌≡◌, ◌-◌, ◌≤◌, ◌++◌, length, drop}
use Rattle.std.specs.List.{flat_map}
use Rattle.facet_json_grammar.specs.Quoted.{escaped}
use Rattle.facet_json_serializer.proofs.quote.push_content.Given as goal

abbrev pub invariant-loop-at : goal.invariant-loop-at
invariant-loop-at l =
    record {
      within : l.at ≤ length l.bytes;
      same : l.out ++ flat_map escaped (drop l.at l.bytes) ≡ l.fn.out ++ flat_map escaped l.bytes;
    }

abbrev pub decreases-loop-at : goal.decreases-loop-at
decreases-loop-at l = length l.bytes - l.at
