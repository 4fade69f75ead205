-- What a place says of texts, it says of each string.
use Rattle.std.proofs.Common.{false}
use Rattle.facet_json_reader.specs.declared.place.Turn.TheVariants as turns
use Rattle.facet_json_reader.proofs.SortsOfTokens.{text-turn}
use Rattle.facet_json_reader.proofs.step.Ahead.is_key.Goals as goal

pub returns-in-Names : goal.returns-in-Names
returns-in-Names c = λ yes start finish. text-turn c.args.self.place turns.Names start finish false c.in-Names.ensures.turn
