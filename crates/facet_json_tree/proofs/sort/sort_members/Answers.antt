use Rattle.std.proofs.Common.{rules}
use Rattle.std.proofs.lemmas.List.Sorted.{answers_always}
use Rattle.std.proofs.lemmas.Result.{on_ok_weaker}
use Rattle.facet_json_tree.proofs.Sortings.{by_name, by_name-order, sort-in_order}
use Rattle.facet_json_tree.proofs.sort.sort_members.Goals as goal

pub returns : goal.returns
returns c =
    let compares = answers_always _ _ _ (λ f a r f' k. search rules) in
    let stable = c.sort_by.ensures.stable by_name by_name-order compares in
    on_ok_weaker c.sort_by.result
    (λ ascends. sort-in_order c.args.members.now.items c.sort_by.new.self.items (ascends by_name by_name-order compares) stable)
    c.sort_by.ensures.sorted
