-- The scalar gives its event.
use Rattle.std.proofs.Common.{refl}
use Rattle.facet_json_reader.proofs.QuickEvents.{scalar-passes}
use Rattle.facet_json_reader.proofs.reader.Reader.pass_scalar.Goals as goal

pub returns : goal.returns
returns c =
    λ buffer language place value there allowed may reached.
    rw (c.new-span.ensures.offset, c.new-span.ensures.len)
    (scalar-passes buffer language c.args.self.now place c.args.at c.args.len value _ c.move_past.new.self may reached refl there allowed
    (rw (c.new-span.ensures.offset, c.new-span.ensures.len) at c.move_past.ensures value))
