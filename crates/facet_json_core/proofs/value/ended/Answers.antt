use Rattle.facet_json_core.proofs.Refusing.{told-ended}
use Rattle.facet_json_core.proofs.value.ended.Goals as goal

pub returns-clause-told : goal.returns-clause-told
returns-clause-told c =
    told-ended _ c.last_span.result c.new.result c.end-end.result c.last_span.ensures.told c.end-end.ensures.end c.new.ensures.offset c.new.ensures.len
