-- The law is a lemma of the room on what is open.
use Rattle.facet_json_scan.proofs.OpenIsTested as open_laws
use Rattle.facet_json_scan.proofs.laws.growth.open_is_tested.Goals as goal

pub returns : goal.returns
returns c = open_laws.open_is_tested
