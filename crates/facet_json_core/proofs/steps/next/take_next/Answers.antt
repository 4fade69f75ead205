use Rattle.facet_format.specs.Views.{span_of}
use Rattle.facet_json_core.proofs.TakenNext.{wanted-takes}
use Rattle.facet_json_core.proofs.steps.next.take_next.Goals as goal

pub returns : goal.returns
returns g c = wanted-takes (λ r. record { kind = g.W.Wanted.kind r.0; span = span_of r.1 }) c.args.parser.now c.next_wanted.new.parser c.next_wanted.result c.next_wanted.ensures
