use Rattle.facet_json.proofs.NestedValues.{beyond-in_document}
use Rattle.facet_json.proofs.laws.first_beyond_by_tokens.Goals as goal

pub returns : goal.returns
returns c = beyond-in_document
