use Rattle.std.proofs.Common.{rules}
use Rattle.std.specs.Cow.{cow_str_bytes}
use Rattle.serde.specs.Names.{Finds}
use Rattle.facet_json_serde.specs.Ahead.{StepReads, HoldsText}
use Rattle.facet_json_serde.proofs.StepsRead.{text-picks}
use Rattle.facet_json_serde.proofs.format.JsonFormat.variant.Goals as goal

pub returns : goal.returns
returns c =
    let key = cow_str_bytes c.in_ok-name.name in
    let reads : StepReads c.args.self.now (λ given. HoldsText given.kind key) c.text.new.self = search rules in
    let finds : Finds c.args.names.now key c.find.result = search rules in
    text-picks c.args.self.now c.text.new.self c.args.names.now key c.args.input.now c.find.result reads finds
