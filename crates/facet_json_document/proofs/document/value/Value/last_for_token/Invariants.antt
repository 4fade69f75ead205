-- The last of all members with the name is the last of those that are left, or else the one that was found.
use Rattle.std.proofs.Common.{◌≡◌, ◌≤◌, ◌-◌, suc}
use Rattle.std.specs.Option.{option_map, option_or}
use Rattle.facet_json_tree.specs.Inner.PointerParts.{unescaped}
use Rattle.facet_json_document.specs.Nodes.{last_named, members, nodes_from}
use Rattle.facet_json_document.specs.Inner.Looking.{from, many}
use Rattle.facet_json_document.proofs.document.value.Value.last_for_token.Given as goal

abbrev pub invariant-loop-name : goal.invariant-loop-name
invariant-loop-name l = record {
  rest : last_named (unescaped l.fn.token) (members 0 (from l.fn.self (suc l.fn.self.index)))
      ≡ option_or (last_named (unescaped l.fn.token) (members 0 (from l.fn.self l.at))) (option_map nodes_from l.found);
  within : l.at ≤ many l.fn.self;
}

abbrev pub decreases-loop-name : goal.decreases-loop-name
decreases-loop-name l = many l.fn.self - l.at
