-- The bracket gives the end of the container.
use Rattle.std.proofs.Common.{ap, ◌∙◌}
use Rattle.facet_json_grammar.specs.Language.{gaps}
use Rattle.facet_json_reader.specs.PlaceViews.{place_of, closing_event, closing_token, turn_by}
use Rattle.facet_json_reader.proofs.QuickEvents.{bracket-passes, closing-cut}
use Rattle.facet_json_reader.proofs.SortsOfTokens.{closes-own}
use Rattle.facet_json_reader.proofs.reader.Reader.pass_closing.Goals as goal

pub returns-in-Closes-clause-passes : goal.returns-in-Closes-clause-passes
returns-in-Closes-clause-passes c =
    λ buffer language here reached.
    let kind = c.args.kind in
    let place = c.args.ahead.place in
    let turns = closes-own place kind c.in-Closes.field-0 (c.in-Closes.ensures.turn ∙ ap (turn_by (place_of place)) c.closing_sort.ensures) in
    bracket-passes buffer language c.args.self.now (place_of place) c.args.ahead.at (closing_token kind) (closing_event kind) _ c.move_past_end.new.self
    reached (closing-cut (gaps language) buffer c.args.ahead.at kind here) turns c.move_past_end.ensures.span c.move_past_end.ensures.leaves
