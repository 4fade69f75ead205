use Rattle.std.proofs.Common.{rules}
use Rattle.facet_json.specs.SerializerCall.{TakesAll}
use Rattle.facet_json_examples.proofs.writing.write_pair.Goals as goal

pub returns : goal.returns
unfolding TakesAll
returns g c = search rules
