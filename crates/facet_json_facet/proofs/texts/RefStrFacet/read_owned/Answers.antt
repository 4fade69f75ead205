use Rattle.std.proofs.Common.{refl}
use Rattle.facet_json_core.proofs.Refusing.{either-about, event-tells}
use Rattle.facet_json_facet.proofs.texts.RefStrFacet.read_owned.Goals as goal

pub returns-clause-tells : goal.returns-clause-tells
returns-clause-tells c = event-tells c.in_ok-next_of_value.ensures.passed (either-about _ c.not_lent.ensures.told refl)
