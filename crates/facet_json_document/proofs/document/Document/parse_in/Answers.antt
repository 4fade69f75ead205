use Rattle.std.proofs.lemmas.Result.{err_from_is_err_and}
use Rattle.facet_json_token.specs.Views.{mode_of}
use Rattle.facet_json_document.proofs.NodesRead.{nodes-only, value-read, value-only, unlimited}
use Rattle.facet_json_document.proofs.OneDocuments.{breaks-off, document-lacks}
use Rattle.facet_json_document.proofs.document.Document.parse_in.Goals as goal

pub returns-in_err-nodes-clause-refused : goal.returns-in_err-nodes-clause-refused
returns-in_err-nodes-clause-refused c =
    let p = err_from_is_err_and c.from_residual.result c.from_residual.ensures.1 in
    rw (p.1, p.2) (breaks-off c.args.input.now (mode_of c.args.mode) _ (unlimited _ _ c.in_err-nodes.ensures.refused))

pub returns-in_err-nodes-clause-only : goal.returns-in_err-nodes-clause-only
returns-in_err-nodes-clause-only c root value d =
    let p = err_from_is_err_and c.from_residual.result c.from_residual.ensures.1 in
    let refused = breaks-off c.args.input.now (mode_of c.args.mode) _ (unlimited _ _ c.in_err-nodes.ensures.refused) in
    rw (p.1, p.2) (document-lacks c.args.input.now (mode_of c.args.mode) _ (root, value, d) refused)

pub returns-clause-document : goal.returns-clause-document
returns-clause-document c = value-read c.args.input.now (mode_of c.args.mode) _ c.in_ok-nodes.ensures.nodes

pub returns-clause-only : goal.returns-clause-only
returns-clause-only c root value d = value-only c.args.input.now (mode_of c.args.mode) _ root value c.in_ok-nodes.ensures.nodes d

pub returns-clause-nodes : goal.returns-clause-nodes
returns-clause-nodes c root value d = nodes-only c.args.input.now (mode_of c.args.mode) _ c.in_ok-nodes.ensures.nodes root value d
