-- Events are passed one after another.
use Rattle.std.proofs.Common.{Ok, ap, ◌∙◌, arith}
use Rattle.std.proofs.lemmas.Result.{err_from_is_err_and}
use Rattle.facet_json_document.proofs.EventsUp.{some-more, many-more, many-events, many-buffer, many-free, many-lower, up-to_end, refused-after, told-free}
use Rattle.facet_json_document.proofs.checking.pass_up.Goals as goal

pub loop-parser-init : goal.loop-parser-init
loop-parser-init c =
    let more = c.pass_in_sight.ensures in
    record {
      passed = many-events _ _ _ _ _ c.requires.unpeeked more;
      buffer = many-buffer _ _ _ _ _ more;
      free = many-free _ _ _ _ _ more;
    }

pub returns-in_err-passes_event-clause-refused : goal.returns-in_err-passes_event-clause-refused
returns-in_err-passes_event-clause-refused c free =
    let i = c.loop-parser.invariant in
    let p = err_from_is_err_and c.from_residual.result c.from_residual.ensures.1 in
    rw (p.1, p.2) (refused-after _ _ _ _ i.passed i.buffer (i.free free) c.in_err-passes_event.ensures.refused)

pub loop-parser-preserved : goal.loop-parser-preserved
loop-parser-preserved c =
    let i = c.loop-parser.invariant in
    let passed = c.in_ok-passes_event.ensures.passed in
    let told = rw c.if-branch.true at passed in
    let more = c.pass_in_sight-in-loop-parser.ensures in
    record {
      passed = many-more _ _ _ _ _ _ (some-more _ _ _ told.0 i.passed told.1) more;
      buffer = many-buffer _ _ _ _ _ more ∙ c.passes_event.ensures.same ∙ i.buffer;
      free = λ free. many-free _ _ _ _ _ more (told-free _ _ _ passed);
    }

pub loop-parser-smaller : goal.loop-parser-smaller
loop-parser-smaller c =
    let shorter = c.passes_event.ensures.shorter (c.in_ok-passes_event.was ∙ ap Ok c.if-branch.true) in
    omega (arith, many-lower _ _ _ _ _ c.pass_in_sight-in-loop-parser.ensures, shorter)

pub returns-clause-up : goal.returns-clause-up
returns-clause-up c =
    let told = rw c.if-branch.false at c.in_ok-passes_event.ensures.passed in
    up-to_end _ _ _ _ c.loop-parser.invariant.passed told c.last_span.ensures.told
