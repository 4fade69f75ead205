-- What was consumed is consumed by the reader.
use Rattle.facet_json_reader.specs.Inner.InSight.{none_more}
use Rattle.facet_json_reader.proofs.reader.Reader.pass_in.Goals as goal

pub returns-in_default : goal.returns-in_default
returns-in_default g c = none_more
