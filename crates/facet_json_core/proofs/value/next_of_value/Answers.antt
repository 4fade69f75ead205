use Rattle.std.proofs.Common.{refl}
use Rattle.std.proofs.lemmas.Result.{IfOk-weaker}
use Rattle.facet_format.specs.Views.{event_of}
use Rattle.facet_json_core.proofs.Meaning.OneValue.EventsPassed.{next-passes_by_kind}
use Rattle.facet_json_core.proofs.Meaning.Walks.NextOnWalk.{answer-walks}
use Rattle.facet_json_core.proofs.value.next_of_value.Goals as goal

pub returns-clause-walks : goal.returns-clause-walks
returns-clause-walks c = IfOk-weaker c.next_in_line.result _ _ (λ e steps. answer-walks _ _ (event_of e) _ refl steps) c.next_in_line.ensures.steps

pub returns-clause-by_kind : goal.returns-clause-by_kind
returns-clause-by_kind c = IfOk-weaker c.next_in_line.result _ _ (λ e moves. next-passes_by_kind _ _ (event_of e) moves) c.next_in_line.ensures.moves
