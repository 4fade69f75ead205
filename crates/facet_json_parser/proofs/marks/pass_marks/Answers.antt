-- Each mark is an escape, behind which a new block begins, or belongs to a token that is told.
use Rattle.std.proofs.Common.{◌≡◌, ◌+◌, ◌-◌, ◌<◌, ◌≤◌, true, false, ◌==◌, ◌/◌, ◌^◌, List, [], ◌∷◌, Option, Some, None, refl, sym, subst, ◌∙◌, arith}
use lib.Count.{count_trailing_zeros}
use Rattle.std.proofs.lemmas.Result.{err_from_is_err_and}
use Rattle.facet_format.specs.Span.{stop}
use Rattle.facet_format.specs.Views.{span_of}
use Rattle.facet_json_token.specs.Views.{mode_of}
use Rattle.facet_json_parser.specs.Inner.Quiet.{RunLeadsOn}
use Rattle.facet_json_parser.specs.Inner.Passing.{IsPassed, Outside}
use Rattle.facet_json_parser.proofs.PassedBytes.{passed-past, nothing-passed}
use Rattle.facet_json_parser.proofs.MarkSteps.{start-bytes, next-mark, text-there, token-there, test-one, test-other, left-below, left-from, outside-behind, all-passed, last-text}
use Rattle.facet_format.specs.declared.event.ContainerKind.{ContainerKind as RustContainerKind}
use Rattle.facet_format.specs.Event.{ContainerKind}
use Rattle.std.specs.Option.{is_some}
use Rattle.facet_json_reader.specs.PlaceViews.{innermost_of}
use Rattle.facet_json_parser.specs.Inner.Leads.{AreOpen}
use Rattle.facet_json_parser.proofs.QuietTokens.{leads-on}
use Rattle.facet_json_parser.proofs.marks.pass_marks.Goals as goal
use Rattle.facet_json_parser.proofs.marks.pass_marks.Goals.{After-behind_block}

-- the innermost of open brackets, and those around it
opened-as : (stack : List ContainerKind) → AreOpen stack → (innermost : ContainerKind) × (around : List ContainerKind) × (stack ≡ innermost ∷ around)
opened-as [] h = absurd h
opened-as (kind ∷ around) h = (kind, around, refl)

pub loop-left-init : goal.loop-left-init
loop-left-init c = record {
  is_open = c.requires.open;
  front = 0;
  low = omega arith;
  zeros = λ i h. absurd (omega (arith, h));
  ones = λ i le h. c.requires.marks i h;
  bytes = start-bytes c.args.input.now (mode_of c.args.mode) (stop (span_of c.args.passage.passed)) c.args.passage.at c.args.passage.within c.args.v c.requires.room c.requires.bytes c.requires.passage.2;
  onward = omega arith;
  leads = λ kind first l. l;
}

pub returns-then-texts-place-eq1-clause-leads : goal.returns-then-texts-place-eq1-clause-leads
returns-then-texts-place-eq1-clause-leads c = λ kind first l. rw c.behind_escape.ensures.passed (c.loop-left.invariant.leads kind first l)

pub returns-then-texts-place-eq1-clause-passage : goal.returns-then-texts-place-eq1-clause-passage
returns-then-texts-place-eq1-clause-passage c =
    let l = c.loop-left in
    let i = l.invariant in
    let place = count_trailing_zeros 64 l.left in
    let m = next-mark c.args.input.now (mode_of c.args.mode) (stop (span_of l.passed)) c.args.passage.at c.args.passage.within c.args.v c.requires.room c.requires.bytes l.left i.front i.zeros i.ones (omega (arith, c.loop-left-test.true)) l.auto.left-fits.fits i.bytes in
    let w = sym (c.requires.texts place m.0) ∙ test-one c.args.texts place c.if-texts-place-eq1.true in
    let t = text-there c.args.input.now (mode_of c.args.mode) (stop (span_of l.passed)) c.args.passage.at c.args.passage.within c.args.v c.requires.room c.requires.bytes place m.0 m.2 w m.3 in
    c.behind_escape.ensures.passage (mode_of c.args.mode) t.0 t.1

pub returns-then-texts-place-eq1-clause-onward : goal.returns-then-texts-place-eq1-clause-onward
returns-then-texts-place-eq1-clause-onward c =
    rw c.behind_escape.ensures.passed (c.loop-left.invariant.onward, λ g. (omega (arith, c.behind_escape.ensures.onward g, c.loop-left.invariant.onward), c.loop-left.invariant.is_open))

pub pass_mark-requires-clause-on : goal.pass_mark-requires-clause-on
pass_mark-requires-clause-on c =
    let l = c.loop-left in
    let i = l.invariant in
    let place = count_trailing_zeros 64 l.left in
    let m = next-mark c.args.input.now (mode_of c.args.mode) (stop (span_of l.passed)) c.args.passage.at c.args.passage.within c.args.v c.requires.room c.requires.bytes l.left i.front i.zeros i.ones (omega (arith, c.loop-left-test.true)) l.auto.left-fits.fits i.bytes in
    let w = sym (c.requires.texts place m.0) ∙ test-other c.args.texts place c.if-texts-place-eq1.false in
    let t = token-there c.args.input.now (mode_of c.args.mode) (stop (span_of l.passed)) c.args.passage.at c.args.passage.within c.args.v c.requires.room c.requires.bytes place m.0 m.2 w m.3 in
    let past = passed-past c.args.input.now (mode_of c.args.mode) (stop (span_of l.passed)) (c.args.passage.at + place) false t.0 in
    let fit : c.end.result ≡ stop (span_of l.passed) = c.end.ensures.fits (omega (arith, past, m.0, c.requires.room)) in
    let on = c.token_start-from.ensures.on (mode_of c.args.mode) (subst (λ n. Outside c.args.input.now (mode_of c.args.mode) n (c.args.passage.at + place)) (sym fit) t.0) t.1 in
    subst (λ n. RunLeadsOn c.args.input.now (mode_of c.args.mode) n c.token_start-from.result) fit on

pub returns-in_err-passed-clause-leads : goal.returns-in_err-passed-clause-leads
returns-in_err-passed-clause-leads c = λ kind first l.
    let p = err_from_is_err_and c.from_residual.result c.from_residual.ensures.1 in
    rw (p.1, p.2) (c.in_err-passed.ensures.leads kind first (c.loop-left.invariant.leads kind first l))

pub returns-then-not-goes_on-clause-leads : goal.returns-then-not-goes_on-clause-leads
returns-then-not-goes_on-clause-leads c = λ kind first l. rw c.settled_at.ensures.0 (c.in_ok-passed.ensures.leads kind first (c.loop-left.invariant.leads kind first l))

-- An innermost bracket is open.
opened : (o : Option RustContainerKind) (stack : List ContainerKind) → innermost_of o stack → is_some o ≡ true → AreOpen stack
opened None stack h e = cc
opened (Some kind) stack h e = rw h.1 tt

pub returns-then-not-goes_on-clause-onward : goal.returns-then-not-goes_on-clause-onward
returns-then-not-goes_on-clause-onward c =
    let on = c.in_ok-passed.ensures.onward in
    let at = c.settled_at.ensures.3 (omega (arith, on.2)) in
    rw c.settled_at.ensures.0 (
      omega (arith, c.loop-left.invariant.onward, on.0, on.1),
      λ g. (
        omega (arith, at, c.loop-left.invariant.onward, on.0, on.1, c.token_start-from.ensures.near),
        opened c.innermost.result c.pass_mark.new.contexts c.innermost.ensures (sym c.is_some-goes_on.ensures ∙ sym c.settled_at.ensures.2 ∙ g),
      ),
    )

pub loop-left-smaller : goal.loop-left-smaller
loop-left-smaller c =
    let on = c.in_ok-passed.ensures.onward in
    omega (arith, on.0, on.1, on.2)

pub loop-left-preserved : goal.loop-left-preserved
loop-left-preserved c =
    let l = c.loop-left in
    let i = l.invariant in
    let on = c.in_ok-passed.ensures.onward in
    let place = count_trailing_zeros 64 l.left in
    let m = next-mark c.args.input.now (mode_of c.args.mode) (stop (span_of l.passed)) c.args.passage.at c.args.passage.within c.args.v c.requires.room c.requires.bytes l.left i.front i.zeros i.ones (omega (arith, c.loop-left-test.true)) l.auto.left-fits.fits i.bytes in
    let k = c.end-in-loop-left.result - c.args.passage.at in
    let fit : c.end-in-loop-left.result ≡ stop (span_of c.in_ok-passed.passed) = c.end-in-loop-left.ensures.fits (omega (arith, on.2)) in
    let far : place ≤ k = omega (arith, fit, on.1, c.token_start-from.ensures.near) in
    let some : 0 < k = omega (arith, c.if-behind-eq0.false) in
    let short : k < 64 = omega (arith, c.if-behind-ge64.false) in
    let there : c.args.passage.at + k ≡ stop (span_of c.in_ok-passed.passed) = omega (arith, fit, some) in
    let none = outside-behind c.args.input.now (mode_of c.args.mode) (stop (span_of l.passed)) c.args.passage.at c.args.passage.within c.args.v c.requires.room c.requires.bytes c.args.texts k some short c.requires.texts c.if-texts-behind-eq1.false in
    record {
      is_open = opened c.innermost.result c.pass_mark.new.contexts c.innermost.ensures (sym c.is_some-goes_on.ensures ∙ c.if-not-goes_on.false);
      front = k;
      low = omega (arith, short);
      zeros = λ j h. left-below l.left k j short h;
      ones = λ j le h. left-from l.left k j le h ∙ i.ones j (omega (arith, le, far, m.1)) h;
      bytes = rw (none, there) (nothing-passed c.args.input.now (mode_of c.args.mode) (stop (span_of c.in_ok-passed.passed)) on.2);
      onward = omega (arith, i.onward, on.0, on.1);
      leads = λ kind first d. c.in_ok-passed.ensures.leads kind first (i.leads kind first d);
    }

pub behind_block-requires-clause-passed : goal.behind_block-requires-clause-passed
behind_block-requires-clause-passed c =
    let i = c.loop-left.invariant in
    omega (arith, i.low, passed-past c.args.input.now (mode_of c.args.mode) (stop (span_of c.loop-left.passed)) (c.args.passage.at + i.front) _ i.bytes)

-- The whole block is passed.
whole_block : (c : After-behind_block) → IsPassed c.args.input.now (mode_of c.args.mode) (stop (span_of c.loop-left.passed)) (c.args.passage.at + 64) (c.args.texts / 2 ^ 63 == 1)
whole_block c =
    let l = c.loop-left in
    let i = l.invariant in
    let p = all-passed c.args.input.now (mode_of c.args.mode) (stop (span_of l.passed)) c.args.passage.at c.args.passage.within c.args.v c.requires.room c.requires.bytes l.left i.front (omega (arith, c.loop-left-test.false)) i.low i.ones i.bytes in
    let w = last-text c.args.input.now (mode_of c.args.mode) (stop (span_of l.passed)) c.args.passage.at c.args.passage.within c.args.v c.requires.room c.requires.bytes c.args.texts c.ranges.texts.fits c.requires.texts in
    subst (IsPassed c.args.input.now (mode_of c.args.mode) (stop (span_of l.passed)) (c.args.passage.at + 64)) (sym w) p

pub returns-clause-leads : goal.returns-clause-leads
returns-clause-leads c = λ kind first d.
    let l = c.loop-left in
    let on = c.behind_block.ensures.on (mode_of c.args.mode) (whole_block (goal.at.returns-clause-leads c).After-behind_block) in
    let stack = opened-as l.contexts l.invariant.is_open in
    rw on.1 (leads-on c.args.input.now (mode_of c.args.mode) l.contexts stack.1 stack.0 (span_of l.passed) (stop (span_of c.behind_block.result.passed)) _ stack.2 (l.invariant.leads kind first d) on.0)

pub returns-clause-passage : goal.returns-clause-passage
returns-clause-passage c = c.behind_block.ensures.passage (mode_of c.args.mode) (whole_block (goal.at.returns-clause-passage c).After-behind_block)

pub returns-clause-onward : goal.returns-clause-onward
returns-clause-onward c =
    let on = c.behind_block.ensures.on (mode_of c.args.mode) (whole_block (goal.at.returns-clause-onward c).After-behind_block) in
    (omega (arith, c.loop-left.invariant.onward, on.0.past), λ g. (omega (arith, c.loop-left.invariant.onward, on.0.past, c.behind_block.ensures.at), c.loop-left.invariant.is_open))
