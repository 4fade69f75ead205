use Rattle.std.proofs.Common.{refl}
use Rattle.std.proofs.lemmas.Result.{err_from_is_err_and}
use Rattle.facet_json_reader.specs.PlaceViews.{refused_of}
use Rattle.facet_json_parser.specs.Lookahead.{spot_of}
use Rattle.facet_json_parser.specs.Views.{lookahead_of}
use Rattle.facet_json_parser.proofs.ParserWithin.{ready-within}
use Rattle.facet_json_parser.proofs.PartsArePassed.{skip-repeats, skip-answers, skip-refused, skip-refusal_within}
use Rattle.facet_json_parser.proofs.parser.JsonParser.skip_out_of_line.Goals as goal

pub returns-in_err-unrefused : goal.returns-in_err-unrefused
returns-in_err-unrefused c =
    let p = err_from_is_err_and c.from_residual.result c.from_residual.ensures.1 in
    rw (p.1, p.2) (skip-repeats c.args.self.now _ c.in_err-unrefused.ensures)

pub refuse-requires : goal.refuse-requires
refuse-requires c = record { within = skip-refusal_within _ c.args.self.now _ _ c.self.view_is c.in_ok-unrefused.ensures (ready-within _ _ _ _ _ _ _ c.args.self.now c.self.invariant.0 refl c.self.view_is) c.in-Err.ensures.passed }

pub returns-in-Ok : goal.returns-in-Ok
returns-in-Ok c =
    skip-answers _ c.args.self.now (spot_of (lookahead_of c.skip.new.self)) c.self.view_is c.in_ok-unrefused.ensures c.in-Ok.ensures.passed

pub returns-in-Err : goal.returns-in-Err
returns-in-Err c =
    skip-refused _ c.args.self.now _ (refused_of c.in-Err.refused) _ (spot_of (lookahead_of c.skip.new.self)) c.self.view_is
    c.in_ok-unrefused.ensures c.in-Err.ensures.passed c.refuse.ensures.kept c.refuse.ensures.error
