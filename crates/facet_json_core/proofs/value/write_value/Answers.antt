use Rattle.std.proofs.Common.{refl, sym, ap, ◌∙◌, inl, inr}
use Rattle.facet_json_grammar.specs.Now.{future_of}
use Rattle.std.proofs.lemmas.Result.{err_from_is_err_and}
use Rattle.facet_format.specs.Event.{Passed}
use Rattle.facet_format.specs.Views.{event_of}
use Rattle.facet_json_core.proofs.DocumentPassed.{read-unwritten, write-unwritten}
use Rattle.facet_json_core.specs.Refusing.{without_memory}
use Rattle.facet_json_core.proofs.Misplaced.{misplaced-unread, none-passed, none-misplaced}
use Rattle.facet_json_core.proofs.Refusing.{stays-there, goes-there, comes-then, tells-later}
use Rattle.facet_json_core.proofs.Passing.{begins, goes-on, one-passed, one-refused, written, none-unread}
use Rattle.facet_json_core.proofs.value.write_value.Goals as goal

pub loop-event-init : goal.loop-event-init
loop-event-init c = record {
  same = refl;
  free = λ free. free;
  passing = λ w is. begins _ w _ is;
  came = stays-there _;
  first = λ zero. (refl, refl);
  begun = λ p rest comes none. refl;
}

pub returns-in_err-event-clause-unwritten : goal.returns-in_err-event-clause-unwritten
returns-in_err-event-clause-unwritten c w is free =
    let i = c.loop-event.invariant in
    let p = err_from_is_err_and c.from_residual.result c.from_residual.ensures.1 in
    rw (p.1, p.2)
    (read-unwritten _ _ _ (elim (c.in_err-event.ensures.refused (i.free free)) [
      | inl none ↦ none-unread _ w _ c.loop-event.parser _ _ _ i.same (i.passing w is) none
      | inr m ↦ misplaced-unread _ _ _ m.given m.left (ap future_of (sym (i.first m.outside).0) ∙ m.comes) m.none
    ]))

pub returns-in_err-pass-clause-unwritten : goal.returns-in_err-pass-clause-unwritten
returns-in_err-pass-clause-unwritten c w is free =
    let i = c.loop-event.invariant in
    let gave = c.in_ok-event.ensures.passed in
    let p = err_from_is_err_and c.from_residual-in_err-pass.result c.from_residual-in_err-pass.ensures.1 in
    let passed : Passed = record { event = event_of c.in_ok-event.event; last = gave.last } in
    rw (p.1, p.2)
    (write-unwritten _ _ _ (one-refused _ w _ _ _ (i.passing w is) passed _ _ _ _ gave.comes c.in_err-pass.ensures refl))

pub returns-then-depth-eq0-clause-written : goal.returns-then-depth-eq0-clause-written
returns-then-depth-eq0-clause-written c w is =
    let i = c.loop-event.invariant in
    let gave = c.in_ok-event.ensures.passed in
    let passed : Passed = record { event = event_of c.in_ok-event.event; last = gave.last } in
    written _ w _ _ _ c.if-depth-eq0.true
    (rw c.in_ok-depth.ensures (one-passed _ w _ _ _ (i.passing w is) passed _ _ _ gave.comes c.in_ok-pass.ensures refl))

pub loop-event-preserved : goal.loop-event-preserved
loop-event-preserved c =
    let i = c.loop-event.invariant in
    let gave = c.in_ok-event.ensures.passed in
    let passed : Passed = record { event = event_of c.in_ok-event.event; last = gave.last } in
    record {
      same = c.next_within.ensures.onward.input.buffer ∙ i.same;
      free = λ free. gave.free;
      passing = λ w is.
          goes-on _ w _ _ _ c.if-depth-eq0.false
          (rw c.in_ok-depth.ensures (one-passed _ w _ _ _ (i.passing w is) passed _ _ _ gave.comes c.in_ok-pass.ensures refl));
      came = comes-then i.came (goes-there c.next_within.ensures.onward);
      first = λ zero. absurd (c.if-depth-eq0.false zero);
      begun = λ p rest comes none.
          let zero = i.begun p rest comes none in
          absurd (none-passed _ _ _ _ _ p rest zero (i.first zero).0 gave c.in_ok-event.ensures.begun comes none);
    }

pub returns-in_err-event-clause-tells : goal.returns-in_err-event-clause-tells
returns-in_err-event-clause-tells c =
    let p = err_from_is_err_and c.from_residual.result c.from_residual.ensures.1 in
    rw (p.1, p.2) (tells-later c.loop-event.invariant.came c.in_err-event.ensures.tells)

pub returns-in_err-event-clause-misplaced : goal.returns-in_err-event-clause-misplaced
returns-in_err-event-clause-misplaced c p rest free comes none =
    let i = c.loop-event.invariant in
    let zero = i.begun p rest comes none in
    let q = err_from_is_err_and c.from_residual.result c.from_residual.ensures.1 in
    rw (q.1, q.2) (none-misplaced _ _ _ _ p rest (i.first zero).0 comes (c.in_err-event.ensures.refused (i.free free)), (i.first zero).1)

pub returns-in_err-depth-clause-tells : goal.returns-in_err-depth-clause-tells
returns-in_err-depth-clause-tells c =
    let p = err_from_is_err_and c.from_residual-in_err-depth.result c.from_residual-in_err-depth.ensures.1 in
    rw (p.1, p.2) (without_memory c.in_ok-event.ensures.passed.free c.in_err-depth.ensures)

pub returns-in_err-depth-clause-misplaced : goal.returns-in_err-depth-clause-misplaced
returns-in_err-depth-clause-misplaced c p rest free comes none =
    let i = c.loop-event.invariant in
    let zero = i.begun p rest comes none in
    absurd (none-passed _ _ _ _ _ p rest zero (i.first zero).0 c.in_ok-event.ensures.passed c.in_ok-event.ensures.begun comes none)

pub returns-in_err-pass-clause-misplaced : goal.returns-in_err-pass-clause-misplaced
returns-in_err-pass-clause-misplaced c p rest free comes none =
    let i = c.loop-event.invariant in
    let zero = i.begun p rest comes none in
    absurd (none-passed _ _ _ _ _ p rest zero (i.first zero).0 c.in_ok-event.ensures.passed c.in_ok-event.ensures.begun comes none)

pub returns-then-depth-eq0-clause-misplaced : goal.returns-then-depth-eq0-clause-misplaced
returns-then-depth-eq0-clause-misplaced c p rest free comes none =
    let i = c.loop-event.invariant in
    let zero = i.begun p rest comes none in
    absurd (none-passed _ _ _ _ _ p rest zero (i.first zero).0 c.in_ok-event.ensures.passed c.in_ok-event.ensures.begun comes none)
