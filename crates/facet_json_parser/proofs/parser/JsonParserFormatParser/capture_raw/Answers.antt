use Rattle.std.proofs.Common.{refl}
use Rattle.std.proofs.lemmas.Result.{err_from_is_err_and}
use Rattle.facet_json_reader.specs.PlaceViews.{refused_of}
use Rattle.facet_json_grammar.proofs.Spans.BytesAhead.{capture-lowers}
use Rattle.facet_json_parser.specs.Lookahead.{spot_of}
use Rattle.facet_json_parser.specs.Views.{lookahead_of}
use Rattle.facet_json_parser.proofs.ParserWithin.{ready-within, moved}
use Rattle.facet_json_parser.proofs.PartsArePassed.{capture-repeats, capture-answers, capture-refused, capture-refusal_within}
use Rattle.facet_json_parser.proofs.parser.JsonParserFormatParser.capture_raw.Goals as goal

pub returns-in_err-unrefused : goal.returns-in_err-unrefused
returns-in_err-unrefused c =
    let p = err_from_is_err_and c.from_residual.result c.from_residual.ensures.1 in
    let known = ready-within _ _ _ _ _ _ _ c.args.self.now c.self.invariant.0 refl c.self.view_is in
    let move = capture-repeats c.args.self.now _ c.in_err-unrefused.ensures in
    let is = moved _ _ known refl move in
    rw (p.1, p.2) (record { steps = is.steps; lowers = is.lowers; moves = move; within = is.within; onward = is.onward; shorter = tt; given = tt })

pub refuse-requires : goal.refuse-requires
refuse-requires c = record { within = capture-refusal_within _ c.args.self.now _ _ c.self.view_is c.in_ok-unrefused.ensures (ready-within _ _ _ _ _ _ _ c.args.self.now c.self.invariant.0 refl c.self.view_is) c.in-Err.ensures.passed }

pub returns-in-Ok : goal.returns-in-Ok
returns-in-Ok c =
    let known = ready-within _ _ _ _ _ _ _ c.args.self.now c.self.invariant.0 refl c.self.view_is in
    let move = capture-answers _ c.args.self.now c.in-Ok.text.now (spot_of (lookahead_of c.capture.new.self)) c.self.view_is c.in_ok-unrefused.ensures
    c.in-Ok.ensures.passed in
    let is = moved _ _ known refl move in
    record { steps = is.steps; lowers = is.lowers; moves = move; within = is.within; onward = is.onward; shorter = capture-lowers _ known _ c.in-Ok.text.now move; given = refl }

pub returns-in-Err : goal.returns-in-Err
returns-in-Err c =
    let known = ready-within _ _ _ _ _ _ _ c.args.self.now c.self.invariant.0 refl c.self.view_is in
    let move = capture-refused _ c.args.self.now _ (refused_of c.in-Err.refused) _ (spot_of (lookahead_of c.capture.new.self)) c.self.view_is
    c.in_ok-unrefused.ensures c.in-Err.ensures.passed c.refuse.ensures.kept c.refuse.ensures.error in
    let is = moved _ _ known refl move in
    record { steps = is.steps; lowers = is.lowers; moves = move; within = is.within; onward = is.onward; shorter = tt; given = tt }
