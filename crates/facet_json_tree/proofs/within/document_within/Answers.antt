use Rattle.std.proofs.lemmas.Result.{IfOk-weaker, IfErr-weaker}
use Rattle.facet_json_token.specs.Views.{mode_of}
use Rattle.facet_json_tree.proofs.DocumentWithin.{read-document-within, read-only-within, read-no_deeper, unread-only-within, unread-deeper, unread-refused-within}
use Rattle.facet_json_tree.proofs.Answered.{either_way}
use Rattle.facet_json_tree.proofs.within.document_within.Goals as goal

pub returns-clause-document : goal.returns-clause-document
returns-clause-document c =
    let read = rw c.parser_of.ensures at c.value_within.ensures.read in
    IfOk-weaker c.value_within.result _ _ (λ t h. read-document-within c.args.input.now (mode_of c.args.mode) c.args.depth _ h) read

pub returns-clause-only : goal.returns-clause-only
returns-clause-only c root value d shallow =
    either_way c.value_within.result (rw c.parser_of.ensures at c.value_within.ensures.read) (rw c.parser_of.ensures at c.value_within.ensures.refused)
    (λ t h. read-only-within c.args.input.now (mode_of c.args.mode) c.args.depth _ h root value d) (λ e h. unread-only-within c.args.input.now (mode_of c.args.mode) c.args.depth _ h root value d shallow)

pub returns-clause-deeper : goal.returns-clause-deeper
returns-clause-deeper c root value s d beyond =
    either_way c.value_within.result (rw c.parser_of.ensures at c.value_within.ensures.read) (rw c.parser_of.ensures at c.value_within.ensures.refused)
    (λ t h. read-no_deeper c.args.input.now (mode_of c.args.mode) c.args.depth _ h root value s d beyond) (λ e h. unread-deeper c.args.input.now (mode_of c.args.mode) c.args.depth _ h root value s d beyond)

pub returns-clause-refused : goal.returns-clause-refused
returns-clause-refused c =
    let unread = rw c.parser_of.ensures at c.value_within.ensures.refused in
    IfErr-weaker c.value_within.result _ _ (λ e h. unread-refused-within c.args.input.now (mode_of c.args.mode) c.args.depth _ h) unread
