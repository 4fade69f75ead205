-- Those that are counted and those that are left are all.
use Rattle.std.proofs.Common.{◌≡◌, ◌+◌, ◌≤◌, ◌-◌, suc, length}
use Rattle.facet_json_document.specs.Nodes.{members}
use Rattle.facet_json_document.specs.Inner.Looking.{from, many}
use Rattle.facet_json_document.proofs.document.value.Value.members_len.Given as goal

abbrev pub invariant-loop-next : goal.invariant-loop-next
invariant-loop-next l = record {
  all : length (members 0 (from l.fn.self (suc l.fn.self.index))) ≡ l.len + length (members 0 (from l.fn.self l.at));
  within : l.at ≤ many l.fn.self;
  fewer : l.len ≤ l.at;
}

abbrev pub decreases-loop-next : goal.decreases-loop-next
decreases-loop-next l = many l.fn.self - l.at
