use Rattle.std.proofs.lemmas.Result.{err_from_is_err_and}
use Rattle.facet_json_token.specs.Views.{mode_of}
use Rattle.facet_json_document.proofs.NodesRead.{nodes-only, value-only}
use Rattle.facet_json_document.proofs.NodesWithin.{none-deeper, only-lacks, deeper-is_refused, read-within, refused-so}
use Rattle.facet_json_document.proofs.document.Document.parse_within_in.Goals as goal

pub returns-in_err-nodes-clause-only : goal.returns-in_err-nodes-clause-only
returns-in_err-nodes-clause-only c root value d shallow =
    let p = err_from_is_err_and c.from_residual.result c.from_residual.ensures.1 in
    rw (p.1, p.2) (only-lacks c.args.input.now (mode_of c.args.mode) c.args.depth _ c.in_err-nodes.ensures.refused root value d shallow)

pub returns-in_err-nodes-clause-deeper : goal.returns-in_err-nodes-clause-deeper
returns-in_err-nodes-clause-deeper c root value s d beyond =
    let p = err_from_is_err_and c.from_residual.result c.from_residual.ensures.1 in
    rw (p.1, p.2) (deeper-is_refused c.args.input.now (mode_of c.args.mode) c.args.depth _ c.in_err-nodes.ensures.refused root value s d beyond)

pub returns-in_err-nodes-clause-refused : goal.returns-in_err-nodes-clause-refused
returns-in_err-nodes-clause-refused c =
    let p = err_from_is_err_and c.from_residual.result c.from_residual.ensures.1 in
    rw (p.1, p.2) (refused-so c.args.input.now (mode_of c.args.mode) c.args.depth _ c.in_err-nodes.ensures.refused)

pub returns-clause-document : goal.returns-clause-document
returns-clause-document c = read-within c.args.input.now (mode_of c.args.mode) c.args.depth _ c.in_ok-nodes.ensures.nodes c.in_ok-nodes.ensures.shallow

pub returns-clause-only : goal.returns-clause-only
returns-clause-only c root value d shallow = value-only c.args.input.now (mode_of c.args.mode) _ root value c.in_ok-nodes.ensures.nodes d

pub returns-clause-deeper : goal.returns-clause-deeper
returns-clause-deeper c root value s d beyond = none-deeper c.args.input.now (mode_of c.args.mode) c.args.depth c.in_ok-nodes.ensures.shallow root value s d beyond

pub returns-clause-nodes : goal.returns-clause-nodes
returns-clause-nodes c root value d = nodes-only c.args.input.now (mode_of c.args.mode) _ c.in_ok-nodes.ensures.nodes root value d
