-- What stands behind the end is white space.
use Rattle.std.proofs.Common.{◌≡◌, ◌≤◌, ◌-◌, take, drop}
use Rattle.facet_json_document.specs.Pieces.{trimmed}
use Rattle.facet_json_document.proofs.pieces.trimmed_end.Given as goal

abbrev pub invariant-loop-end : goal.invariant-loop-end
invariant-loop-end l = record {
  ordered : l.at ≤ l.end;
  within : l.end ≤ l.fn.end;
  same : trimmed (take (l.end - l.at) (drop l.at l.text)) ≡ trimmed (take (l.fn.end - l.at) (drop l.at l.text));
}

abbrev pub decreases-loop-end : goal.decreases-loop-end
decreases-loop-end l = l.end
