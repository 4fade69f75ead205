use Rattle.std.proofs.Common.{refl, sym, ap, ◌∙◌, subst}
use Rattle.std.proofs.lemmas.Result.{err_from_is_err_and}
use Rattle.facet_json.specs.Complaint.{Complaint}
use Rattle.facet_json.specs.Document.{IsWholeDocument}
use Rattle.facet_json.specs.ErrorKind.{kind_code, read}
use Rattle.facet_json.specs.Gap.{plain}
use Rattle.facet_json.specs.Text.{text}
use Rattle.facet_json.specs.TypedTrees.{without_plus}
use Rattle.facet_json.specs.Views.{tree_view}
use Rattle.facet_json.specs.Write.{pretty_options}
use Rattle.facet_json_examples.proofs.rewriting.indented.Goals as goal

pub returns-clause-only : goal.returns-clause-only
returns-clause-only c root value document =
    c.in_ok-to_vec_pretty.ensures.text ∙ ap (text pretty_options 0) (c.in_ok-tree.ensures.only root value document)

pub returns-clause-written : goal.returns-clause-written
returns-clause-written c =
    let value = tree_view c.in_ok-tree.tree in
    let document = c.in_ok-tree.ensures.document in
    let is = c.in_ok-to_vec_pretty.ensures.text in
    let back = c.document_comes_back.ensures c.args.input.now plain document.0 value pretty_options document.1 refl in
    (document.0, value, document.1, is, (back.0, subst (λ bytes. IsWholeDocument bytes back.0 (without_plus value)) (sym is) back.1))

pub returns-in_err-tree-clause-only : goal.returns-in_err-tree-clause-only
returns-in_err-tree-clause-only c root value document =
    let p = err_from_is_err_and c.from_residual.result c.from_residual.ensures.1 in
    rw (p.1, p.2) (ap (λ (complaint : Complaint). kind_code (read complaint)) (c.in_err-tree.ensures.only root value document))
