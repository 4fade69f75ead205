use Rattle.std.proofs.lemmas.Result.{err_from_is_err_and}
use Rattle.facet_json_document.proofs.NodesRead.{strict_nodes-only, strict-read, strict-only, unlimited}
use Rattle.facet_json_document.proofs.OneDocuments.{strict-lacks}
use Rattle.facet_json_document.proofs.document.Document.parse_strict.Goals as goal

pub returns-in_err-nodes-clause-refused : goal.returns-in_err-nodes-clause-refused
returns-in_err-nodes-clause-refused c =
    let p = err_from_is_err_and c.from_residual.result c.from_residual.ensures.1 in
    rw (p.1, p.2) (unlimited _ _ c.in_err-nodes.ensures.refused)

pub returns-in_err-nodes-clause-only : goal.returns-in_err-nodes-clause-only
returns-in_err-nodes-clause-only c root value d =
    let p = err_from_is_err_and c.from_residual.result c.from_residual.ensures.1 in
    rw (p.1, p.2) (strict-lacks c.args.input.now _ (root, value, d) (unlimited _ _ c.in_err-nodes.ensures.refused))

pub returns-clause-document : goal.returns-clause-document
returns-clause-document c = strict-read c.args.input.now _ c.in_ok-nodes.ensures.nodes

pub returns-clause-only : goal.returns-clause-only
returns-clause-only c root value d = strict-only c.args.input.now _ root value c.in_ok-nodes.ensures.nodes d

pub returns-clause-nodes : goal.returns-clause-nodes
returns-clause-nodes c root value d = strict_nodes-only c.args.input.now _ c.in_ok-nodes.ensures.nodes root value d
