-- The reader passes events where none is held.
use Rattle.std.proofs.Common.{sym, ◌∙◌}
use Rattle.facet_json_parser.specs.Inner.Wanted.{reader_stays, reader_moves}
use Rattle.facet_json_parser.proofs.EventsInSight.{reader-sound}
use Rattle.facet_json_parser.proofs.lookahead.Lookahead.pass_in_sight.Goals as goal

pub returns-then-is_some-clause-passes : goal.returns-then-is_some-clause-passes
returns-then-is_some-clause-passes g c = reader_stays

pub returns-clause-passes : goal.returns-clause-passes
returns-clause-passes g c = reader_moves c.pass_in_sight.new.self c.pass_in_sight.new.takes (sym c.is_some.ensures ∙ c.if-is_some.false) c.pass_in_sight.ensures

pub returns-clause-sound : goal.returns-clause-sound
returns-clause-sound g c =
    reader-sound (g.T.Takes.takes c.args.input.now) c.args.input.now c.args.language c.args.self.now _ _ _ c.requires.sound
    (reader_moves c.pass_in_sight.new.self c.pass_in_sight.new.takes (sym c.is_some.ensures ∙ c.if-is_some.false) c.pass_in_sight.ensures)
