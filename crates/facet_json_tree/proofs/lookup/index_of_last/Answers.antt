use Rattle.std.proofs.Common.{◌≡◌, false, ◌+◌, ◌-◌, get_or, drop, string_bytes, sym, ap, ◌∙◌, arith, rules}
use Rattle.std.proofs.lemmas.List.{get_or_default}
use Rattle.std.specs.Cmp.Lexicographic.{bytes_decides}
use Rattle.facet_json_tree.specs.Lookup.{last_member}
use Rattle.facet_json_tree.specs.Same.{same_bytes}
use Rattle.facet_json_tree.specs.Views.{tree_view, pairs_view}
use Rattle.facet_json_tree.proofs.Lookups.{last_member-not}
use Rattle.facet_json_tree.proofs.TreeViews.{pairs_view-drop}
use Rattle.facet_json_tree.proofs.lookup.index_of_last.Goals as goal

pub returns-then-eq-clause-found : goal.returns-then-eq-clause-found
returns-then-eq-clause-found c =
    let members = c.args.members.now in
    let key = c.args.key.now in
    let i = c.loop-index.index in
    let m = c.index-members-index.result in
    let back : i - 1 + 1 ≡ i = omega arith in
    let same : string_bytes (get_or members (i - 1) m).0 ≡ key =
    sym c.as_str.ensures.value ∙ (bytes_decides c.as_str.result.now key).0 (sym c.if-eq.ensures) in record {
      named = λ d. ap (λ n. string_bytes n.0) (get_or_default members (i - 1) d m (omega arith)) ∙ same;
      last = ap (λ n. last_member key (pairs_view (drop n members))) back ∙ c.loop-index.invariant;
    }

pub loop-index-preserved : goal.loop-index-preserved
loop-index-preserved c =
    let members = c.args.members.now in
    let key = c.args.key.now in
    let i = c.loop-index.index in
    let m = get_or members (i - 1) c.index-members-index.result in
    let is : m ≡ get_or members (i - 1) m = get_or_default members (i - 1) c.index-members-index.result m (omega arith) in
    let back : i - 1 + 1 ≡ i = omega arith in
    let other : same_bytes (string_bytes m.0) key ≡ false = ap (λ s. same_bytes s key) (sym c.as_str.ensures.value) ∙ sym c.if-eq.ensures in
    let none = ap (λ n. last_member key (pairs_view (drop n members))) back ∙ c.loop-index.invariant in
    let not = last_member-not key (string_bytes m.0) (tree_view m.1) (pairs_view (drop (i - 1 + 1) members)) other none in
    ap (last_member key) (pairs_view-drop members (i - 1) m (omega arith) is) ∙ not

pub returns-then-eq-clause-within : goal.returns-then-eq-clause-within
returns-then-eq-clause-within c = search rules

pub returns-clause-found : goal.returns-clause-found
returns-clause-found c = search rules

pub returns-clause-within : goal.returns-clause-within
returns-clause-within c = search rules
