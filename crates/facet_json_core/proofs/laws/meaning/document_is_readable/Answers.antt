use Rattle.facet_json_core.proofs.Meaning.OfTrees.DocumentTrees as laws
use Rattle.facet_json_core.proofs.laws.meaning.document_is_readable.Goals as goal

pub returns : goal.returns
returns c = laws.document_is_readable
