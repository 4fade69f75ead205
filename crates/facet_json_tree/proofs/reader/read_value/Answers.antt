use Rattle.std.proofs.Common.{rules}
use Rattle.std.proofs.lemmas.Result.{IfOk-weaker, IfErr-weaker}
use Rattle.facet_json_core.proofs.Meaning.Keeping.{keeps-then}
use Rattle.facet_json_tree.proofs.ReadingValues.{read-at}
use Rattle.facet_json_tree.proofs.ReadingWithin.{within-at, within-same}
use Rattle.facet_json_tree.proofs.BeyondEvents.{value-leveled}
use Rattle.facet_json_core.proofs.Meaning.Refusals.{keeps-there}
use Rattle.facet_json_core.proofs.Refusing.{tells-later}
use Rattle.facet_json_tree.proofs.ValuesPassed.{value-passed}
use Rattle.facet_json_tree.proofs.reader.read_value.Goals as goal

pub returns-clause-keeps : goal.returns-clause-keeps
returns-clause-keeps c = keeps-then _ _ _ c.begin_value.ensures.keeps c.finish.ensures.keeps

pub returns-clause-moves : goal.returns-clause-moves
returns-clause-moves c =
    IfOk-weaker c.finish.result _ _ (λ t leads. leads _ c.in_ok-first.ensures.moves) c.finish.ensures.leads

pub returns-clause-told : goal.returns-clause-told
returns-clause-told c =
    let first = c.in_ok-first.ensures.begun in
    IfOk-weaker c.finish.result _ _ (λ t h. read-at first.comes (h first.passed first.begun)) c.finish.ensures.read

pub returns-clause-one_value : goal.returns-clause-one_value
returns-clause-one_value c =
    IfOk-weaker c.finish.result _ _ (λ t rest. value-passed c.args.depth _ _ _ _ c.in_ok-first.ensures.begun rest) c.finish.ensures.passes

pub returns-clause-level : goal.returns-clause-level
returns-clause-level c =
    let first = c.in_ok-first.ensures.begun in
    IfOk-weaker c.finish.result _ _ (λ t h. value-leveled first.comes (h first.passed first.begun)) c.finish.ensures.level

pub returns-clause-free : goal.returns-clause-free
returns-clause-free c = IfOk-weaker c.finish.result _ _ (λ t went. went.free) c.finish.ensures.went

pub returns-clause-refused : goal.returns-clause-refused
returns-clause-refused c free =
    let first = c.in_ok-first.ensures.begun in
    IfErr-weaker c.finish.result _ _
    (λ e h. within-same c.begin_value.ensures.keeps.input.buffer (within-at first.comes (h first.passed first.begun))) c.finish.ensures.refused

pub returns-in_err-first-clause-keeps : goal.returns-in_err-first-clause-keeps
returns-in_err-first-clause-keeps c = search rules

pub returns-in_err-first-clause-moves : goal.returns-in_err-first-clause-moves
returns-in_err-first-clause-moves c = search rules

pub returns-in_err-first-clause-shorter : goal.returns-in_err-first-clause-shorter
returns-in_err-first-clause-shorter c = search rules

pub returns-in_err-first-clause-told : goal.returns-in_err-first-clause-told
returns-in_err-first-clause-told c = search rules

pub returns-clause-tells : goal.returns-clause-tells
returns-clause-tells c =
    IfErr-weaker c.finish.result _ _ (λ e told. tells-later (keeps-there c.begin_value.ensures.keeps) told) c.finish.ensures.tells
