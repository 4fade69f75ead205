use Rattle.std.proofs.lemmas.Result.{err_from_is_err_and}
use Rattle.facet_json_document.proofs.NodesRead.{strict_nodes-only, strict-only}
use Rattle.facet_json_document.proofs.NodesWithin.{strict_none-deeper, strict_only-lacks, strict_deeper-is_refused, strict_read-within}
use Rattle.facet_json_document.proofs.document.Document.parse_within_strict.Goals as goal

pub returns-in_err-nodes-clause-only : goal.returns-in_err-nodes-clause-only
returns-in_err-nodes-clause-only c root value d shallow =
    let p = err_from_is_err_and c.from_residual.result c.from_residual.ensures.1 in
    rw (p.1, p.2) (strict_only-lacks c.args.input.now c.args.depth _ c.in_err-nodes.ensures.refused root value d shallow)

pub returns-in_err-nodes-clause-deeper : goal.returns-in_err-nodes-clause-deeper
returns-in_err-nodes-clause-deeper c root value s d beyond =
    let p = err_from_is_err_and c.from_residual.result c.from_residual.ensures.1 in
    rw (p.1, p.2) (strict_deeper-is_refused c.args.input.now c.args.depth _ c.in_err-nodes.ensures.refused root value s d beyond)

pub returns-clause-document : goal.returns-clause-document
returns-clause-document c = strict_read-within c.args.input.now c.args.depth _ c.in_ok-nodes.ensures.nodes c.in_ok-nodes.ensures.shallow

pub returns-clause-only : goal.returns-clause-only
returns-clause-only c root value d shallow = strict-only c.args.input.now _ root value c.in_ok-nodes.ensures.nodes d

pub returns-clause-deeper : goal.returns-clause-deeper
returns-clause-deeper c root value s d beyond = strict_none-deeper c.args.input.now c.args.depth c.in_ok-nodes.ensures.shallow root value s d beyond

pub returns-clause-nodes : goal.returns-clause-nodes
returns-clause-nodes c root value d = strict_nodes-only c.args.input.now _ c.in_ok-nodes.ensures.nodes root value d
