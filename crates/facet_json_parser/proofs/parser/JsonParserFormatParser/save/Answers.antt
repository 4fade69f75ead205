use Rattle.std.proofs.Common.{◌∙◌, refl, ap, map}
use Rattle.std.proofs.lemmas.Result.{err_from_is_err_and}
use Rattle.facet_format.specs.Cursor.{no_memory_at}
use Rattle.facet_format.specs.Complaint.{refusal_at, save_limit}
use Rattle.facet_json_parser.specs.Views.{lookahead_of, point_of, kept_spot, now_of}
use Rattle.facet_json_parser.proofs.KeptSpots.{with_point-spots}
use Rattle.facet_json_parser.proofs.PointsByPlace.{at-greatest, below-greatest, next-number, new-ready}
use Rattle.facet_json_grammar.proofs.MoveIsStep.{move-steps}
use Rattle.facet_json_grammar.proofs.MoveLaws.{moves-saved, moves-unsaved}
use Rattle.facet_json_parser.proofs.AnswersAreMoves.{save-repeats, save-stops, save-fails, save-keeps}
use Rattle.facet_json_parser.proofs.ParserWithin.{ready-within, answer-within, save-onward, number-new}
use Rattle.facet_json_parser.proofs.parser.JsonParserFormatParser.save.Goals as goal

pub returns-in_err-unrefused : goal.returns-in_err-unrefused
returns-in_err-unrefused c =
    let p = err_from_is_err_and c.from_residual.result c.from_residual.ensures.1 in
    let known = ready-within _ _ _ _ _ _ _ c.args.self.now c.self.invariant.0 refl c.self.view_is in
    let move = save-repeats c.args.self.now _ c.in_err-unrefused.ensures in
    rw (p.1, p.2) (record { steps = move-steps _ _ _ _ move; moves = move; within = answer-within _ _ known move; input = move.input; lowers = save-onward _ _ known move; point = tt; own_number = tt; unchanged = refl })

pub returns-in_default : goal.returns-in_default
returns-in_default c =
    let full = c.in_default.ensures in
    let at = at-greatest c.self.inside.counter full c.self.invariant.0.counter_fits in
    let known = ready-within _ _ _ _ _ _ _ c.args.self.now c.self.invariant.0 refl c.self.view_is in
    let told = c.span.ensures _ _ c.self.invariant.0.stands.filled in
    let move = save-stops _ c.args.self.now _ c.self.view_is c.in_ok-unrefused.ensures at
    (c.from.ensures ∙ c.save_limit.ensures ∙ ap (refusal_at save_limit) told) in
    record { steps = move-steps _ _ _ _ move; moves = move; within = answer-within _ _ known move; input = move.input; lowers = save-onward _ _ known move; point = tt; own_number = tt; unchanged = refl }

pub invariant_of-self : goal.invariant_of-self
invariant_of-self c =
    let i = c.self.inside in
    let e = c.in-Some.ensures in (
      new-ready _ _ _ _ _ (map point_of c.keep.new.points.items) _ c.in-Some.number c.self.invariant.0 (below-greatest i.counter e.0)
          (next-number i.counter c.in-Some.number e.1) c.in-Ok.ensures,
      c.self.invariant.1,
    )

pub returns-in-Ok : goal.returns-in-Ok
returns-in-Ok c =
    let i = c.self.inside in
    let e = c.in-Some.ensures in
    let known = ready-within _ _ _ _ _ _ _ c.args.self.now c.self.invariant.0 refl c.self.view_is in
    let kept = ap (map kept_spot) c.in-Ok.ensures ∙ with_point-spots c.in-Some.number (lookahead_of i.lookahead) (map point_of i.points.items) in
    let move = save-keeps _ c.args.self.now (map kept_spot (map point_of c.keep.new.points.items)) c.in-Some.number c.self.view_is c.in_ok-unrefused.ensures
    (below-greatest i.counter e.0) (next-number i.counter c.in-Some.number e.1) kept in
    let is = moves-saved _ _ _ move in
    record {
      steps = move-steps _ _ _ _ move;
      moves = move;
      within = answer-within _ _ known move;
      input = move.input;
      lowers = save-onward _ _ known move;
      point = (is.1, is.2);
      own_number = number-new _ _ _ _ _ _ c.in-Some.number _ c.args.self.now c.self.invariant.0 refl c.self.view_is (next-number i.counter c.in-Some.number e.1);
      unchanged = tt;
    }

pub returns-in-Err : goal.returns-in-Err
returns-in-Err c =
    let i = c.self.inside in
    let known = ready-within _ _ _ _ _ _ _ c.args.self.now c.self.invariant.0 refl c.self.view_is in
    let told = c.span-in-Err.ensures _ _ c.self.invariant.0.stands.filled in
    let move = save-fails _ c.args.self.now _ _ c.self.view_is (ap (λ ps. now_of i.input.now i.language i.lookahead i.refusal ps i.counter) c.in-Err.ensures)
    c.in_ok-unrefused.ensures (below-greatest i.counter c.in-Some.ensures.0) (c.from-in-Err.ensures ∙ c.out_of_memory.ensures ∙ ap no_memory_at told) in
    record { steps = move-steps _ _ _ _ move; moves = move; within = answer-within _ _ known move; input = move.input; lowers = save-onward _ _ known move; point = tt; own_number = tt; unchanged = moves-unsaved _ _ _ move }
