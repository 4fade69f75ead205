use Rattle.std.proofs.Common.{refl}
use Rattle.std.specs.Option.{option_map}
use Rattle.std.proofs.lemmas.Result.{err_from_is_err_and}
use Rattle.facet_format.specs.Views.{event_of}
use Rattle.facet_json_reader.specs.PlaceViews.{refused_of}
use Rattle.facet_json_parser.specs.Lookahead.{spot_of}
use Rattle.facet_json_parser.specs.Views.{lookahead_of}
use Rattle.facet_json_parser.proofs.EventsInBatch.{queue-answers, queue-refused, queue-repeats}
use Rattle.facet_json_parser.proofs.ParserWithin.{ready-within, queue-refusal_within}
use Rattle.facet_json_parser.proofs.parser.JsonParser.next_with_room.Goals as goal

pub returns-in_err-unrefused-clause-event : goal.returns-in_err-unrefused-clause-event
returns-in_err-unrefused-clause-event c =
    let p = err_from_is_err_and c.from_residual.result c.from_residual.ensures.1 in
    rw (p.1, p.2) (queue-repeats c.args.self.now _ c.in_err-unrefused.ensures)

pub returns-in_err-unrefused-clause-within : goal.returns-in_err-unrefused-clause-within
returns-in_err-unrefused-clause-within c = ready-within _ _ _ _ _ _ _ _ c.self.invariant.0 refl c.self.view_is

pub refuse-requires : goal.refuse-requires
refuse-requires c = record { within = queue-refusal_within _ c.args.self.now _ _ c.self.view_is c.in_ok-unrefused.ensures (ready-within _ _ _ _ _ _ _ c.args.self.now c.self.invariant.0 refl c.self.view_is) c.in-Err.ensures.passed }

pub returns-in-Ok-clause-event : goal.returns-in-Ok-clause-event
returns-in-Ok-clause-event c =
    queue-answers _ c.args.self.now (option_map event_of c.in-Ok.event) (spot_of (lookahead_of c.next_with_room.new.self)) c.self.view_is c.in_ok-unrefused.ensures
    c.in-Ok.ensures.passed

pub returns-in-Ok-clause-within : goal.returns-in-Ok-clause-within
returns-in-Ok-clause-within c = ready-within _ _ _ _ _ _ _ _ c.self.invariant.0 refl c.self.view_is

pub returns-in-Err-clause-event : goal.returns-in-Err-clause-event
returns-in-Err-clause-event c =
    queue-refused _ c.args.self.now _ (refused_of c.in-Err.refused) _ (spot_of (lookahead_of c.next_with_room.new.self)) c.self.view_is c.in_ok-unrefused.ensures
    c.in-Err.ensures.passed c.refuse.ensures.kept c.refuse.ensures.error

pub returns-in-Err-clause-within : goal.returns-in-Err-clause-within
returns-in-Err-clause-within c = ready-within _ _ _ _ _ _ _ _ c.self.invariant.0 refl c.self.view_is
