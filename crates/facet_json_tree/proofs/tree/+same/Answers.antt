use Rattle.std.proofs.Common.{◌≡◌, [], drop, not, string_bytes, refl, sym, ap, ◌∙◌, arith}
use Rattle.std.proofs.lemmas.Bool.{not-false}
use Rattle.std.proofs.lemmas.List.{drop_all}
use Rattle.std.specs.Cmp.Lexicographic.{bytes_decides}
use Rattle.facet_json_grammar.specs.Tree.{pairs}
use Rattle.facet_json_tree.specs.Views.{tree_view, trees_view, pairs_view}
use Rattle.facet_json_tree.proofs.TreeViews.{trees_view-length, pairs_view-length, trees_view-drop, pairs_view-drop, tree_view-Pairs}
use Rattle.facet_json_tree.proofs.tree.+same.Goals as goal
use Rattle.facet_json_tree.proofs.tree.+same.Goals.{have_same-then-ne-via-then-ne, have_same-then-ne-via-else-ne+then-not-is_same}

pub are_same-returns-then-items-others : goal.are_same-returns-then-items-others
are_same-returns-then-items-others t c =
    (λ never. cc, λ e. let long = trees_view-length c.args.items.now c.args.others.now e in absurd (omega arith))

pub are_same-loop-i-preserved : goal.are_same-loop-i-preserved
are_same-loop-i-preserved t c =
    let l = c.loop-i in
    let ts = trees_view-drop c.args.items.now l.i c.index-items-i.result (omega arith) c.index-items-i.is in
    let us = trees_view-drop c.args.others.now l.i c.index-others-i.result (omega arith) c.index-others-i.is in
    let same = c.is_same.ensures.0 c.if-not-is_same.false in
    (λ e. l.invariant.0 (cc), λ e. let here = l.invariant.1 e in cc)

pub are_same-returns-then-not-is_same : goal.are_same-returns-then-not-is_same
are_same-returns-then-not-is_same t c =
    let l = c.loop-i in
    let x = c.index-items-i.result in
    let y = c.index-others-i.result in
    let ts = trees_view-drop c.args.items.now l.i x (omega arith) c.index-items-i.is in
    let us = trees_view-drop c.args.others.now l.i y (omega arith) c.index-others-i.is in (
      λ never. cc,
      λ e.
          let here = l.invariant.1 e in
          let same : tree_view x ≡ tree_view y = cc in
          let told = c.is_same.ensures.1 same in cc,
    )

pub are_same-returns : goal.are_same-returns
are_same-returns t c =
    let l = c.loop-i in
    let ts = drop_all l.i c.args.items.now c.loop-i-test.false in
    let us : drop l.i c.args.others.now ≡ [] = drop_all l.i c.args.others.now (omega arith) in
    (λ _. l.invariant.0 (ap trees_view (ts ∙ sym us)), λ _. refl)

pub have_same-returns-then-members-others : goal.have_same-returns-then-members-others
have_same-returns-then-members-others t c =
    (λ never. cc, λ e. let long = pairs_view-length c.args.members.now c.args.others.now e in absurd (omega arith))

pub have_same-loop-i-preserved : goal.have_same-loop-i-preserved
have_same-loop-i-preserved t c =
    let l = c.loop-i in
    let p = c.index-members-i.result in
    let q = c.index-others-i.result in
    let ps = pairs_view-drop c.args.members.now l.i p (omega arith) c.index-members-i.is in
    let qs = pairs_view-drop c.args.others.now l.i q (omega arith) c.index-others-i.is in
    let key = (bytes_decides (string_bytes p.0) (string_bytes q.0)).0 (not-false _ (sym c.if-ne.ensures)) in
    let same = c.is_same.ensures.0 c.if-not-is_same.false in
    (λ e. l.invariant.0 (cc), λ e. let here = l.invariant.1 e in cc)

pub have_same-returns-then-ne : goal.have_same-returns-then-ne
have_same-returns-then-ne t c =
    let l = c.loop-i in
    let p = c.index-members-i.result in
    let q = c.index-others-i.result in
    let ps = pairs_view-drop c.args.members.now l.i p (omega arith) c.index-members-i.is in
    let qs = pairs_view-drop c.args.others.now l.i q (omega arith) c.index-others-i.is in (
      λ never. cc,
      λ e.
          let here = l.invariant.1 e in
          let key : string_bytes p.0 ≡ string_bytes q.0 = cc in
          let same : tree_view p.1 ≡ tree_view q.1 = cc in
          elim c.then-ne.branch [
            | have_same-then-ne-via-then-ne w ↦
                let told = (bytes_decides (string_bytes p.0) (string_bytes q.0)).1 key in sym (w.if-ne.ensures ∙ ap not told)
            | have_same-then-ne-via-else-ne+then-not-is_same w ↦
                let told = w.is_same.ensures.1 same in let no = w.if-not-is_same.true in cc
          ],
    )

pub have_same-returns : goal.have_same-returns
have_same-returns t c =
    let l = c.loop-i in
    let ps = drop_all l.i c.args.members.now c.loop-i-test.false in
    let qs : drop l.i c.args.others.now ≡ [] = drop_all l.i c.args.others.now (omega arith) in
    (λ _. l.invariant.0 (ap pairs_view (ps ∙ sym qs)), λ _. refl)

pub Tree::is_same-returns-in-Pairs-Pairs : goal.Tree::is_same-returns-in-Pairs-Pairs
Tree::is_same-returns-in-Pairs-Pairs t c =
    let step = c.in-Pairs-Pairs in
    let ps = ap (λ v. pairs (pairs_view v)) (sym c.deref-in-Pairs-Pairs.ensures.value) in
    let qs = ap (λ v. pairs (pairs_view v)) (sym c.deref-in-Pairs-Pairs-2.ensures.value) in
    let a = ap tree_view step.is-0 ∙ tree_view-Pairs _ ∙ ps in
    let b = ap tree_view step.is-1 ∙ tree_view-Pairs _ ∙ qs in
    (λ yes. let same = c.have_same.ensures.0 yes in cc, λ e. c.have_same.ensures.1 (cc))
