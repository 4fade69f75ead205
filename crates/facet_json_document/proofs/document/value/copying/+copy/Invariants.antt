-- Those that were copied and those that are left are all. Whatever is copied stands further on.
use Rattle.std.proofs.Common.{◌<◌, ◌≤◌, ◌-◌, ◌+◌, ◌*◌}
use Rattle.facet_json_document.proofs.TreesCopied.{ItemsCopied, MembersCopied}
use Rattle.facet_json_document.specs.Inner.Looking.{many}
use Rattle.facet_json_document.proofs.document.value.copying.+copy.Given as goal

-- twice how many nodes are ahead; one more before a container
abbrev pub decreases-copy_value : goal.decreases-copy_value
decreases-copy_value l = 2 * (many l.value.now - l.value.now.index) + 1

abbrev pub decreases-copy_items : goal.decreases-copy_items
decreases-copy_items l = 2 * (many l.value.now - l.value.now.index)

abbrev pub decreases-copy_members : goal.decreases-copy_members
decreases-copy_members l = 2 * (many l.value.now - l.value.now.index)

abbrev pub invariant-copy_items-loop-next : goal.invariant-copy_items-loop-next
invariant-copy_items-loop-next l = record {
  copied : ItemsCopied l.fn.value l.copies.items l.at;
  ahead : l.fn.value.index < l.at;
  within : l.at ≤ many l.fn.value;
}

abbrev pub decreases-copy_items-loop-next : goal.decreases-copy_items-loop-next
decreases-copy_items-loop-next l = many l.fn.value - l.at

abbrev pub decreases-copy_members-loop-key : goal.decreases-copy_members-loop-key
decreases-copy_members-loop-key l = many l.fn.value - l.at

abbrev pub invariant-copy_members-loop-key : goal.invariant-copy_members-loop-key
invariant-copy_members-loop-key l = record {
  copied : MembersCopied l.fn.value l.copies.items l.at;
  ahead : l.fn.value.index < l.at;
  within : l.at ≤ many l.fn.value;
}
