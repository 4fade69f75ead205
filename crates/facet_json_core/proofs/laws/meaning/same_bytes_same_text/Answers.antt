use Rattle.facet_json_core.proofs.Meaning.Nodes.NodesWithin.{same-bytes}
use Rattle.facet_json_core.proofs.laws.meaning.same_bytes_same_text.Goals as goal

pub returns : goal.returns
returns c = same-bytes
