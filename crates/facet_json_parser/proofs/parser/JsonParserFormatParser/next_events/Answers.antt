use Rattle.std.proofs.Common.{◌≡◌, ◌<◌, [], ◌∷◌, ◌++◌, ◌∙◌, ap, subst, arith}
use Rattle.std.proofs.lemmas.Result.{err_from_is_err_and}
use Rattle.facet_json_grammar.specs.Within.{NowWithin}
use Rattle.facet_json_parser.proofs.EventsInBatch.{none-given, event-given, given-none, given-more, given-end, given-refused, given-full, given-within, given-pass, given-pass_refused}
use Rattle.facet_json_grammar.proofs.MoveIsStep.{move-steps}
use Rattle.facet_json_grammar.proofs.MovesNext.{events-over}
use Rattle.facet_json_parser.proofs.ParserWithin.{batch-within, batch-goes_on, batch-lowers}
use Rattle.facet_json_parser.proofs.parser.JsonParserFormatParser.next_events.Goals as goal

pub loop-count-init : goal.loop-count-init
loop-count-init c = record {
  so_far = given-none c.args.buf.now.items c.args.self.now;
  known = λ h. absurd (omega (arith, h));
}

pub returns-in_err-event : goal.returns-in_err-event
returns-in_err-event c =
    let p = err_from_is_err_and c.from_residual.result c.from_residual.ensures.1 in
    let known = given-within _ _ _ _ _ c.loop-count.invariant.so_far c.loop-count.invariant.known c.in_err-event.ensures.within in
    let g = given-refused _ _ _ _ _ _ _ _ _ c.loop-count.invariant.so_far c.in_err-event.ensures.items c.loop-count-test.true c.in_err-event.ensures.event in
    let move = g.2 in
    rw (p.1, p.2) (let gone = batch-goes_on _ _ _ _ (λ _. known) move in record {
      steps = (g.0, g.1, move-steps _ _ _ _ move);
      lowers = gone.onward;
      moves = (g.0, g.1, move, batch-within _ _ _ _ (λ _. known) move);
      onward = gone;
      shorter = tt;
      next = given-pass_refused _ _ _ _ _ _ g;
      end = tt;
    })

pub returns-in_default : goal.returns-in_default
returns-in_default c =
    let known = given-within _ _ _ _ _ c.loop-count.invariant.so_far c.loop-count.invariant.known c.in_ok-event.ensures.within in
    let g = given-end _ _ _ _ _ _ _ _ c.loop-count.invariant.so_far c.in_ok-event.ensures.items c.loop-count-test.true
    (none-given _ _ _ c.in_default.not-Some c.in_ok-event.ensures.event) in
    let move = g.2 in
    let gone = batch-goes_on _ _ _ _ (λ _. known) move in record {
      steps = (g.0, g.1, move-steps _ _ _ _ move);
      lowers = gone.onward;
      moves = (g.0, g.1, move, batch-within _ _ _ _ (λ _. known) move);
      onward = gone;
      shorter = batch-lowers _ _ _ _ _ (λ _. known) move;
      next = given-pass _ _ _ _ _ _ g;
      end = events-over _ _ _ _ _ move;
    }

pub loop-count-preserved : goal.loop-count-preserved
loop-count-preserved c = record {
  so_far = given-more _ _ _ _ _ _ c.in-Some.event _ c.loop-count.invariant.so_far (c.push_back_reserved.ensures.items ∙ ap (λ xs. xs ++ c.in-Some.event ∷ []) c.in_ok-event.ensures.items)
      (event-given _ _ _ _ c.in-Some.is c.in_ok-event.ensures.event);
  known = λ _. given-within _ _ _ _ _ c.loop-count.invariant.so_far c.loop-count.invariant.known c.in_ok-event.ensures.within;
}

pub returns : goal.returns
returns c =
    let full : c.loop-count.count ≡ c.args.limit = omega (arith, c.loop-count-test.false, c.loop-count.auto.count-end) in
    let known : 0 < c.args.limit → NowWithin c.args.self.now = subst (λ n. 0 < n → NowWithin c.args.self.now) full c.loop-count.invariant.known in
    let g = given-full _ _ _ _ _ _ c.loop-count.invariant.so_far full in
    let move = g.2 in
    let gone = batch-goes_on _ _ _ _ known move in record {
      steps = (g.0, g.1, move-steps _ _ _ _ move);
      lowers = gone.onward;
      moves = (g.0, g.1, move, batch-within _ _ _ _ known move);
      onward = gone;
      shorter = batch-lowers _ _ _ _ _ known move;
      next = given-pass _ _ _ _ _ _ g;
      end = events-over _ _ _ _ _ move;
    }
