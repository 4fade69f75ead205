use Rattle.std.proofs.lemmas.Result.{err_from_is_err_and}
use Rattle.std.proofs.Common.{refl, ap, not, ◌∙◌}
use Rattle.facet_format.specs.Cursor.{no_memory_at}
use Rattle.facet_json_reader.specs.PlaceViews.{language_of}
use Rattle.facet_json_parser.specs.Views.{lookahead_of}
use Rattle.facet_json_parser.proofs.LookaheadSteps.{fills-sound, refused-queues, over-queues, take-sound, take-queues, held-lacks_room}
use Rattle.facet_json_parser.proofs.lookahead.Lookahead.next_with_room.Goals as goal

pub returns-in_err-fill-clause-passed : goal.returns-in_err-fill-clause-passed
returns-in_err-fill-clause-passed c =
    let p = err_from_is_err_and c.from_residual.result c.from_residual.ensures.1 in
    rw (p.1, p.2, c.in_err-fill.ensures.spot)
    (refused-queues c.args.input.now (language_of c.args.language) (lookahead_of c.args.self.now) _ c.in_err-fill.ensures.filled.0 c.in_err-fill.ensures.filled.1)

pub returns-then-is_none-clause-passed : goal.returns-then-is_none-clause-passed
returns-then-is_none-clause-passed c =
    rw (← c.in_ok-fill.ensures.spot)
    (over-queues c.args.input.now (language_of c.args.language) (lookahead_of c.fill.new.self) c.fill.new.self.held (c.is_none.ensures ∙ ap not c.if-is_none.true)
    c.in_ok-fill.ensures.filled refl)

pub returns-in-Ok-clause-sound : goal.returns-in-Ok-clause-sound
returns-in-Ok-clause-sound c =
    let good = fills-sound c.args.input.now (language_of c.args.language) _ _ c.requires.sound c.in_ok-fill.ensures.held c.in_ok-fill.ensures.spot in
    take-sound c.args.input.now (language_of c.args.language) _ _ c.take.result good c.take.ensures

pub returns-in-Ok-clause-passed : goal.returns-in-Ok-clause-passed
returns-in-Ok-clause-passed c =
    rw (← c.in_ok-fill.ensures.spot)
    (take-queues c.args.input.now (language_of c.args.language) (lookahead_of c.fill.new.self) (lookahead_of c.take.new.self) c.take.result c.in_ok-fill.ensures.held
    c.in_ok-fill.ensures.filled c.take.ensures)

pub returns-in-Err-clause-passed : goal.returns-in-Err-clause-passed
returns-in-Err-clause-passed c =
    rw (← c.in_ok-fill.ensures.spot)
    (held-lacks_room c.args.input.now (language_of c.args.language) (lookahead_of c.fill.new.self) c.fill.new.self.held _ (c.is_none.ensures ∙ ap not c.if-is_none.false)
    c.in_ok-fill.ensures.held (c.out_of_memory.ensures ∙ ap no_memory_at (c.span.ensures c.args.input.now (language_of c.args.language) c.in_ok-fill.ensures.held)) refl)
