use Rattle.std.proofs.Common.{rules}
use Rattle.std.specs.Cow.{cow_str_bytes}
use Rattle.serde.specs.Names.{Finds}
use Rattle.facet_json_serde.specs.Ahead.{StepReads, HoldsKey}
use Rattle.facet_json_serde.proofs.StepsRead.{key-picks}
use Rattle.facet_json_serde.proofs.format.JsonFormat.next_key.Goals as goal

pub returns-in-Some : goal.returns-in-Some
returns-in-Some c =
    let key = cow_str_bytes c.in-Some.key in
    let reads : StepReads c.args.self.now (λ given. HoldsKey given.kind key) c.key.new.self = search rules in
    let finds : Finds c.args.names.now key c.find.result = search rules in
    key-picks c.args.self.now c.key.new.self c.args.names.now key c.args._input.now c.find.result reads finds
