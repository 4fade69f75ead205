use Rattle.std.proofs.Common.{◌≡◌, ◌+◌, ◌*◌, [], map, string_bytes}
use Rattle.facet_format.specs.Event.{array, object}
use Rattle.facet_json_grammar.specs.Now.{Now, ahead, future_of}
use Rattle.facet_json_core.specs.Meaning.Nodes.{KeepsOn}
use Rattle.facet_json_core.specs.Meaning.OneValue.{IsInside}
use Rattle.facet_json_tree.specs.Inner.Beyond.{SameBeyond}
use Rattle.facet_json_tree.specs.Inner.Reading.{WentOn, LeadsOn}
use Rattle.facet_json_tree.specs.Views.{tree_view}
use Rattle.facet_json_tree.proofs.ItemsRead.{ItemsPassed}
use Rattle.facet_json_tree.proofs.MembersRead.{MembersPassed}
use Rattle.facet_json_tree.proofs.reader.+read.Given as goal

-- how many bytes are ahead, twice; one more before a container
abbrev pub decreases-finish : goal.decreases-finish
decreases-finish l = 2 * ahead l.parser.now + 1

abbrev pub decreases-push_items : goal.decreases-push_items
decreases-push_items l = 2 * ahead l.parser.now

abbrev pub decreases-push_members : goal.decreases-push_members
decreases-push_members l = 2 * ahead l.parser.now

abbrev pub invariant-push_items-loop-item : goal.invariant-push_items-loop-item
invariant-push_items-loop-item l = record {
  keeps : KeepsOn l.fn.parser l.parser;
  leads : LeadsOn l.fn.parser l.parser;
  went : WentOn l.fn.parser l.parser;
  inside : (start : Now) → IsInside array start l.fn.parser → IsInside array start l.parser;
  level : SameBeyond (future_of l.fn.parser) l.depth (future_of l.parser) l.depth;
  passed : l.fn.items.items ≡ [] → ItemsPassed (future_of l.fn.parser) (future_of l.parser) (map tree_view l.items.items);
}

abbrev pub decreases-push_items-loop-item : goal.decreases-push_items-loop-item
decreases-push_items-loop-item l = ahead l.parser

abbrev pub invariant-push_members-loop-key : goal.invariant-push_members-loop-key
invariant-push_members-loop-key l = record {
  keeps : KeepsOn l.fn.parser l.parser;
  leads : LeadsOn l.fn.parser l.parser;
  went : WentOn l.fn.parser l.parser;
  inside : (start : Now) → IsInside object start l.fn.parser → IsInside object start l.parser;
  level : SameBeyond (future_of l.fn.parser) l.depth (future_of l.parser) l.depth;
  passed : l.fn.members.items ≡ [] → MembersPassed (future_of l.fn.parser) (future_of l.parser) (map (λ p. (string_bytes p.0, tree_view p.1)) l.members.items);
}

abbrev pub decreases-push_members-loop-key : goal.decreases-push_members-loop-key
decreases-push_members-loop-key l = ahead l.parser
