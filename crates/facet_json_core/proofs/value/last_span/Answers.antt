use Rattle.facet_json_core.proofs.Meaning.Refusals.{told-last}
use Rattle.facet_json_core.proofs.value.last_span.Goals as goal

pub returns-clause-told : goal.returns-clause-told
returns-clause-told c = told-last _ _ (rw c.unwrap.ensures at c.current_span.ensures.told)
