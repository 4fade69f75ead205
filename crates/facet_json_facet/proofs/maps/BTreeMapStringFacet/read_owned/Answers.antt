use Rattle.std.proofs.Common.{refl}
use Rattle.facet_json_facet.proofs.maps.BTreeMapStringFacet.read_owned.Goals as goal

pub returns-clause-owned : goal.returns-clause-owned
returns-clause-owned g c = c.map_in.ensures.owned refl
