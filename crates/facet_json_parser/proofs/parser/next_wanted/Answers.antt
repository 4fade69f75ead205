-- What is wanted is passed as an event is.
use Rattle.facet_format.specs.Views.{span_of}
use Rattle.facet_json_parser.proofs.ParserWithin.{wanted-passes}
use Rattle.facet_json_parser.proofs.parser.next_wanted.Goals as goal

pub returns : goal.returns
returns g c = wanted-passes (λ r. record { kind = g.W.Wanted.kind r.0; span = span_of r.1 }) c.args.parser.now c.step.new.self c.step.result c.step.ensures.within c.step.ensures.passed
