use Rattle.std.proofs.Common.{◌+◌, ◌++◌, true, drop, codes, ap, sym, ◌∙◌, rules, arith, string_bytes, SFits, w64}
use Rattle.std.proofs.lemmas.Int.{to_z-of_z}
use Rattle.std.specs.Int.{w128}
use Rattle.std.specs.Fmt.{signed_decimal}
use Rattle.std.proofs.Output.{has_written_append, has_written_of_eq}
use Rattle.std.proofs.lemmas.List.{drop_all}
use Rattle.facet_json_grammar.specs.Quoted.{quoted}
use Rattle.facet_json_grammar.specs.Text.{default_options, text, items_text, members_text, numbers}
use Rattle.facet_json_tree.specs.Views.{tree_view, trees_view, pairs_view}
use Rattle.facet_json_tree.proofs.Shown.{items-next, members-next, items-end, members-end}
use Rattle.facet_json_tree.proofs.TreeViews.{tree_view-Null, tree_view-Unit, tree_view-Bool, tree_view-Char, tree_view-I64, tree_view-U64, tree_view-I128, tree_view-U128, tree_view-Decimal, tree_view-Text, tree_view-Bytes, tree_view-Raw, tree_view-List, tree_view-Pairs, trees_view-drop, pairs_view-drop}
use Rattle.facet_json_tree.proofs.display.+show.Goals as goal

-- ---- each kind

pub show-returns-in-Null : goal.show-returns-in-Null
unfolding text
show-returns-in-Null g t c plain ok =
    let is = ap (text default_options 0) (ap tree_view c.in-Null.is ∙ tree_view-Null) in
    has_written_of_eq _ _ _ _ _ (sym is) (c.write_str.ensures.writes plain ok)

pub show-returns-in-Unit : goal.show-returns-in-Unit
unfolding text
show-returns-in-Unit g t c plain ok =
    let is = ap (text default_options 0) (ap tree_view c.in-Unit.is ∙ tree_view-Unit) in
    has_written_of_eq _ _ _ _ _ (sym is) (c.write_str-in-Unit.ensures.writes plain ok)

pub show-returns-in-Bool : goal.show-returns-in-Bool
unfolding text
show-returns-in-Bool g t c plain ok =
    let is = ap (text default_options 0) (ap tree_view c.in-Bool.is ∙ tree_view-Bool _) in
    has_written_of_eq _ _ _ _ _ (c.bool_text.ensures ∙ sym is) (c.write_str-in-Bool.ensures.writes plain ok)

pub show-returns-in-Char : goal.show-returns-in-Char
unfolding text
show-returns-in-Char g t c plain ok =
    let is = ap (text default_options 0) (ap tree_view c.in-Char.is ∙ tree_view-Char _) in
    has_written_of_eq _ _ _ _ _ (sym is) (c.show_char.ensures plain ok)

pub show-returns-in-I64 : goal.show-returns-in-I64
unfolding text
show-returns-in-I64 g t c plain ok =
    let fits : SFits w64 c.in-I64.n = search rules in
    let is = ap (text default_options 0) (ap tree_view c.in-I64.is ∙ tree_view-I64 _) in
    has_written_of_eq _ _ _ _ _ (ap signed_decimal (to_z-of_z w64 c.in-I64.n fits) ∙ sym is) (c.show_number.ensures plain ok)

pub show-returns-in-U64 : goal.show-returns-in-U64
unfolding text
show-returns-in-U64 g t c plain ok =
    let is = ap (text default_options 0) (ap tree_view c.in-U64.is ∙ tree_view-U64 _) in
    has_written_of_eq _ _ _ _ _ (sym is) (c.show_number-in-U64.ensures plain ok)

pub show-returns-in-I128 : goal.show-returns-in-I128
unfolding text
show-returns-in-I128 g t c plain ok =
    let fits : SFits w128 c.in-I128.n = search rules in
    let is = ap (text default_options 0) (ap tree_view c.in-I128.is ∙ tree_view-I128 _) in
    has_written_of_eq _ _ _ _ _ (ap signed_decimal (to_z-of_z w128 c.in-I128.n fits) ∙ sym is) (c.show_number-in-I128.ensures plain ok)

pub show-returns-in-U128 : goal.show-returns-in-U128
unfolding text
show-returns-in-U128 g t c plain ok =
    let is = ap (text default_options 0) (ap tree_view c.in-U128.is ∙ tree_view-U128 _) in
    has_written_of_eq _ _ _ _ _ (sym is) (c.show_number-in-U128.ensures plain ok)

pub show-returns-in-Decimal : goal.show-returns-in-Decimal
unfolding text
show-returns-in-Decimal g t c plain ok =
    let is = ap (text default_options 0) (ap tree_view c.in-Decimal.is ∙ tree_view-Decimal _) in
    has_written_of_eq _ _ _ _ _ (c.as_str.ensures.text ∙ sym is) (c.write_str-in-Decimal.ensures.writes plain ok)

pub show-returns-in-Text : goal.show-returns-in-Text
unfolding text
show-returns-in-Text g t c plain ok =
    let is = ap (text default_options 0) (ap tree_view c.in-Text.is ∙ tree_view-Text _) in
    has_written_of_eq _ _ _ _ _ (ap quoted c.as_str-in-Text.ensures.value ∙ sym is) (c.show_text.ensures plain ok)

pub show-returns-in_ok-write_str-in-Bytes : goal.show-returns-in_ok-write_str-in-Bytes
unfolding text
show-returns-in_ok-write_str-in-Bytes g t c plain ok =
    let is = ap (text default_options 0) (ap tree_view c.in-Bytes.is ∙ tree_view-Bytes _) in
    let all = ap (λ bs. codes "[" ++ (numbers bs ++ codes "]")) c.deref.ensures.value in
    let one = c.write_str-in-Bytes.ensures.writes plain (search rules) in
    let two = c.show_bytes.ensures one.plain ok in
    has_written_of_eq _ _ _ _ _ (all ∙ sym is) (has_written_append _ _ _ _ _ _ one two)

pub show-returns-in-Raw : goal.show-returns-in-Raw
unfolding text
show-returns-in-Raw g t c plain ok =
    let is = ap (text default_options 0) (ap tree_view c.in-Raw.is ∙ tree_view-Raw _) in
    has_written_of_eq _ _ _ _ _ (c.as_str-in-Raw.ensures.value ∙ sym is) (c.write_str-in-Raw.ensures.writes plain ok)

pub show-returns-in_ok-write_str-in-List : goal.show-returns-in_ok-write_str-in-List
unfolding text
show-returns-in_ok-write_str-in-List g t c plain ok =
    let is = ap (text default_options 0) (ap tree_view c.in-List.is ∙ tree_view-List _) in
    let all = ap (λ ts. codes "[" ++ items_text default_options 0 true (trees_view ts)) c.deref-in-List.ensures.value in
    let one = c.write_str-in-List.ensures.writes plain (search rules) in
    let two = c.show_items.ensures one.plain ok in
    has_written_of_eq _ _ _ _ _ (all ∙ sym is) (has_written_append _ _ _ _ _ _ one two)

pub show-returns-in_ok-write_str-in-Pairs : goal.show-returns-in_ok-write_str-in-Pairs
unfolding text
show-returns-in_ok-write_str-in-Pairs g t c plain ok =
    let is = ap (text default_options 0) (ap tree_view c.in-Pairs.is ∙ tree_view-Pairs _) in
    let all = ap (λ ps. codes "{" ++ members_text default_options 0 true (pairs_view ps)) c.deref-in-Pairs.ensures.value in
    let one = c.write_str-in-Pairs.ensures.writes plain (search rules) in
    let two = c.show_members.ensures one.plain ok in
    has_written_of_eq _ _ _ _ _ (all ∙ sym is) (has_written_append _ _ _ _ _ _ one two)

-- ---- items and members

pub show_items-loop-item-preserved : goal.show_items-loop-item-preserved
show_items-loop-item-preserved g t c =
    let l = c.loop-item in
    let items = c.args.items.now in
    let x = c.item-item.result in
    let (done, left, wrote) = l.invariant in
    let others = trees_view (drop (l.item-index + 1) items) in
    let next = trees_view-drop items l.item-index x (omega arith) c.item-item.is in
    let here = ap (λ ts. done ++ items_text default_options 0 l.is_first ts) (sym next) ∙ left in (
      _,
      items-next done l.is_first (tree_view x) others _ here,
      λ plain.
          let one = c.write_str.ensures.writes (wrote plain).plain (search rules) in
          let two = c.show.ensures one.plain (search rules) in
          has_written_of_eq _ _ _ _ _ (ap (λ s. (done ++ s) ++ text default_options 0 (tree_view x)) c.separator.ensures)
          (has_written_append _ _ _ _ _ _ (has_written_append _ _ _ _ _ _ (wrote plain) one) two),
    )

pub show_items-returns : goal.show_items-returns
show_items-returns g t c plain ok =
    let l = c.loop-item in
    let (done, left, wrote) = l.invariant in
    let none = drop_all l.item-index c.args.items.now c.loop-item-test.false in
    let end = sym (ap (λ ts. items_text default_options 0 l.is_first (trees_view ts)) none ∙ items-end l.is_first) in
    has_written_of_eq _ _ _ _ _ (ap (λ e. done ++ e) end ∙ left) (has_written_append _ _ _ _ _ _ (wrote plain) (c.write_str-2.ensures.writes (wrote plain).plain ok))

pub show_members-loop-member-preserved : goal.show_members-loop-member-preserved
show_members-loop-member-preserved g t c =
    let l = c.loop-member in
    let members = c.args.members.now in
    let x = c.member-item.result in
    let (done, left, wrote) = l.invariant in
    let others = pairs_view (drop (l.member-index + 1) members) in
    let next = pairs_view-drop members l.member-index x (omega arith) c.member-item.is in
    let here = ap (λ ps. done ++ members_text default_options 0 l.is_first ps) (sym next) ∙ left in (
      _,
      members-next done l.is_first (string_bytes x.0) (tree_view x.1) others _ here,
      λ plain.
          let one = c.write_str.ensures.writes (wrote plain).plain (search rules) in
          let two = c.show_text.ensures one.plain (search rules) in
          let three = c.write_str-in-loop-member.ensures.writes two.plain (search rules) in
          let four = c.show.ensures three.plain (search rules) in
          let name = ap quoted c.as_str.ensures.value in
          has_written_of_eq _ _ _ _ _ (λ i. (((done ++ c.separator.ensures i) ++ name i) ++ codes ":") ++ text default_options 0 (tree_view x.1))
          (has_written_append _ _ _ _ _ _ (has_written_append _ _ _ _ _ _ (has_written_append _ _ _ _ _ _ (has_written_append _ _ _ _ _ _ (wrote plain) one) two) three) four),
    )

pub show_members-returns : goal.show_members-returns
show_members-returns g t c plain ok =
    let l = c.loop-member in
    let (done, left, wrote) = l.invariant in
    let none = drop_all l.member-index c.args.members.now c.loop-member-test.false in
    let end = sym (ap (λ ps. members_text default_options 0 l.is_first (pairs_view ps)) none ∙ members-end l.is_first) in
    has_written_of_eq _ _ _ _ _ (ap (λ e. done ++ e) end ∙ left) (has_written_append _ _ _ _ _ _ (wrote plain) (c.write_str-2.ensures.writes (wrote plain).plain ok))
