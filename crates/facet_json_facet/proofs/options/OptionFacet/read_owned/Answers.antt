use Rattle.std.proofs.Common.{refl}
use Rattle.facet_json_facet.proofs.options.OptionFacet.read_owned.Goals as goal

pub returns-clause-owned : goal.returns-clause-owned
returns-clause-owned g c = c.optional_in.ensures.owned refl
