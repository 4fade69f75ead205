use Rattle.std.proofs.Common.{refl}
use Rattle.std.proofs.lemmas.Result.{IfOk-weaker, IfErr-weaker}
use Rattle.facet_json_token.specs.Views.{mode_of}
use Rattle.facet_json_core.proofs.DocumentFromRoot.{read-document, read-only, unread-refused, unread-only}
use Rattle.facet_json_tree.proofs.Answered.{either_way}
use Rattle.facet_json_tree.proofs.reader.document.Goals as goal

pub returns-clause-document : goal.returns-clause-document
returns-clause-document c =
    let read = rw c.parser_of.ensures at c.read_tree.ensures.told in
    IfOk-weaker c.read_tree.result _ _ (λ t h. read-document c.args.input.now (mode_of c.args.mode) _ _ h) read

pub returns-clause-refused : goal.returns-clause-refused
returns-clause-refused c =
    let unread = (rw c.parser_of.ensures at c.read_tree.ensures.refused) refl in
    IfErr-weaker c.read_tree.result _ _ (λ e h. unread-refused c.args.input.now (mode_of c.args.mode) _ h) unread

pub returns-clause-only : goal.returns-clause-only
returns-clause-only c root value d =
    let unread = (rw c.parser_of.ensures at c.read_tree.ensures.refused) refl in
    either_way c.read_tree.result (rw c.parser_of.ensures at c.read_tree.ensures.told) unread
    (λ t h. read-only c.args.input.now (mode_of c.args.mode) _ _ h root value d) (λ e h. unread-only c.args.input.now (mode_of c.args.mode) _ h root value d)
