use Rattle.facet_json_core.proofs.Meaning.Nodes.NodesSpelled.{document-nodes}
use Rattle.facet_json_core.proofs.laws.meaning.document_nodes_are_spelled.Goals as goal

pub returns : goal.returns
returns c = document-nodes
