-- The bracket gives the beginning of the container.
use Rattle.facet_json_reader.proofs.QuickEvents.{start-passes}
use Rattle.facet_json_reader.proofs.reader.Reader.pass_opening.Goals as goal

pub returns-clause-passes : goal.returns-clause-passes
returns-clause-passes c =
    λ buffer language place may here reached.
    start-passes buffer language c.args.self.now place c.args.at c.args.kind c.move_past_start.result c.move_past_start.new.self may reached here
    c.move_past_start.ensures.span c.move_past_start.ensures.leaves
