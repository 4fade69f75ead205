use Rattle.std.proofs.Common.{◌≡◌, List, ℕ, true, ◌++◌, drop}
use Rattle.std.specs.Fmt.{HasWritten, IsPlainFormatter}
use Rattle.facet_json_grammar.specs.Text.{default_options, items_text, members_text}
use Rattle.facet_json_tree.specs.Views.{trees_view, pairs_view}
use Rattle.facet_json_tree.proofs.display.+show.Given as goal

abbrev pub invariant-show_items-loop-item : goal.invariant-show_items-loop-item
invariant-show_items-loop-item g l =
    (done : List ℕ)
    × (done ++ items_text default_options 0 l.is_first (trees_view (drop l.item-index l.fn.items)) ≡ items_text default_options 0 true (trees_view l.fn.items))
    × (IsPlainFormatter l.initial.f → HasWritten g.W.Write.write_str_gives l.initial.f done l.f)

abbrev pub invariant-show_members-loop-member : goal.invariant-show_members-loop-member
invariant-show_members-loop-member g l =
    (done : List ℕ)
    × (done ++ members_text default_options 0 l.is_first (pairs_view (drop l.member-index l.fn.members)) ≡ members_text default_options 0 true (pairs_view l.fn.members))
    × (IsPlainFormatter l.initial.f → HasWritten g.W.Write.write_str_gives l.initial.f done l.f)
