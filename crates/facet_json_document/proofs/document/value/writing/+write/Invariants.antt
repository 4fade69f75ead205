-- The calls that are left are those of what is left. Whatever is written stands further on.
use Rattle.std.proofs.Common.{◌<◌, ◌≤◌, ◌-◌, ◌+◌, ◌*◌}
use Rattle.facet_json_document.proofs.NodesWritten.{ItemsLeft, MembersLeft}
use Rattle.facet_json_document.specs.Inner.Looking.{many}
use Rattle.facet_json_document.proofs.document.value.writing.+write.Given as goal

-- twice how many nodes are ahead; one more before a container
abbrev pub decreases-write_value : goal.decreases-write_value
decreases-write_value l = 2 * (many l.value.now - l.value.now.index) + 1

abbrev pub decreases-write_items : goal.decreases-write_items
decreases-write_items l = 2 * (many l.value.now - l.value.now.index)

abbrev pub decreases-write_members : goal.decreases-write_members
decreases-write_members l = 2 * (many l.value.now - l.value.now.index)

abbrev pub invariant-write_items-loop-next : goal.invariant-write_items-loop-next
invariant-write_items-loop-next l = record {
  left : ItemsLeft l.fn.value l.fn.serializer l.at l.serializer;
  ahead : l.fn.value.index < l.at;
  within : l.at ≤ many l.fn.value;
}

abbrev pub decreases-write_items-loop-next : goal.decreases-write_items-loop-next
decreases-write_items-loop-next l = many l.fn.value - l.at

abbrev pub invariant-write_members-loop-key : goal.invariant-write_members-loop-key
invariant-write_members-loop-key l = record {
  left : MembersLeft l.fn.value l.fn.serializer l.at l.serializer;
  ahead : l.fn.value.index < l.at;
  within : l.at ≤ many l.fn.value;
}

abbrev pub decreases-write_members-loop-key : goal.decreases-write_members-loop-key
decreases-write_members-loop-key l = many l.fn.value - l.at
