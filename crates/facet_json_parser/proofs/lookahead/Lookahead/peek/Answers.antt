use Rattle.std.proofs.lemmas.Result.{err_from_is_err_and}
use Rattle.std.proofs.Common.{ap, ◌∙◌}
use Rattle.facet_format.specs.Cursor.{no_memory_at}
use Rattle.facet_json_reader.specs.PlaceViews.{language_of}
use Rattle.facet_json_parser.specs.Views.{lookahead_of}
use Rattle.facet_json_parser.proofs.LookaheadSteps.{refused-shows, lend-shows, withheld-shows}
use Rattle.facet_json_parser.proofs.lookahead.Lookahead.peek.Goals as goal

pub returns-in_err-fill-clause-shown : goal.returns-in_err-fill-clause-shown
returns-in_err-fill-clause-shown c =
    let p = err_from_is_err_and c.from_residual.result c.from_residual.ensures.1 in
    rw (p.1, p.2, c.in_err-fill.ensures.spot)
    (refused-shows c.args.input.now (language_of c.args.language) (lookahead_of c.args.self.now) _ c.in_err-fill.ensures.filled.0 c.in_err-fill.ensures.filled.1)

pub returns-in-Ok-clause-shown : goal.returns-in-Ok-clause-shown
returns-in-Ok-clause-shown c =
    rw (← c.in_ok-fill.ensures.spot)
    (lend-shows c.args.input.now (language_of c.args.language) (lookahead_of c.fill.new.self) (lookahead_of c.lend.new.self) c.in-Ok.event c.in_ok-fill.ensures.held
    c.in_ok-fill.ensures.filled c.in-Ok.ensures)

pub returns-in-Err-clause-shown : goal.returns-in-Err-clause-shown
returns-in-Err-clause-shown c =
    rw (← c.in_ok-fill.ensures.spot)
    (withheld-shows c.args.input.now (language_of c.args.language) (lookahead_of c.fill.new.self) (lookahead_of c.lend.new.self) _ c.in_ok-fill.ensures.held c.in-Err.ensures
    (λ held. c.out_of_memory.ensures ∙ ap no_memory_at (c.span.ensures c.args.input.now (language_of c.args.language) held)))
