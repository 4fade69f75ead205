use Rattle.std.proofs.Common.{drop, get_or, sym, ◌∙◌, ap, option_map, ◌+◌}
use Rattle.std.proofs.lemmas.List.{take_rest, at_drop_all}
use Rattle.facet_json_tree.specs.Pointer.{lone_tilde, zero_or_one}
use Rattle.facet_json_tree.proofs.Pointers.{found_from-none, found_from-more, found_from-met, alone, not_alone-byte, not_alone-escape}
use Rattle.facet_json_tree.proofs.pointer.check.Goals as goal
use Rattle.facet_json_tree.proofs.pointer.check.Goals.{else-byte-eq126-via-then-byte-eq126+else-not-is_escape, else-byte-eq126-via-else-byte-eq126}

pub loop-i-init : goal.loop-i-init
loop-i-init c = found_from-none c.args.text.now

pub loop-i-preserved : goal.loop-i-preserved
loop-i-preserved c =
    let text = c.args.text.now in
    let i = c.loop-i.i in
    let b = get_or text i 0 in
    let behind = drop (i + 1) text in
    found_from-more text i c.loop-i-test.true c.loop-i.invariant (elim c.else-byte-eq126.branch [
      | else-byte-eq126-via-then-byte-eq126+else-not-is_escape w ↦
          not_alone-escape b behind (ap zero_or_one (sym (take_rest text (i + 1))) ∙ sym w.is_escape.ensures ∙ w.if-not-is_escape.false)
      | else-byte-eq126-via-else-byte-eq126 w ↦ not_alone-byte b behind w.if-byte-eq126.false
    ])

pub returns-then-not-is_escape-clause-err : goal.returns-then-not-is_escape-clause-err
returns-then-not-is_escape-clause-err c =
    let text = c.args.text.now in
    let i = c.loop-i.i in
    let b = get_or text i 0 in
    let behind = drop (i + 1) text in
    let no_escape = ap zero_or_one (sym (take_rest text (i + 1))) ∙ sym c.is_escape.ensures ∙ c.if-not-is_escape.true in (
      sym c.begins_well.ensures ∙ c.if-not-begins_well.false,
      found_from-met text i c.loop-i-test.true c.loop-i.invariant (alone b behind c.if-byte-eq126.true no_escape),
    )

pub returns-clause-ok : goal.returns-clause-ok
returns-clause-ok c =
    let text = c.args.text.now in
    let i = c.loop-i.i in (
      sym c.begins_well.ensures ∙ c.if-not-begins_well.false,
      c.loop-i.invariant ∙ at_drop_all (λ xs. option_map (λ k. k + i) (lone_tilde xs)) text i c.loop-i-test.false,
    )
