use Rattle.std.proofs.Common.{refl}
use Rattle.std.proofs.lemmas.Result.{err_from_is_err_and, IfOk-weaker, IfErr-weaker}
use Rattle.facet_format.specs.Views.{refusal_of}
use Rattle.facet_json_core.specs.Meaning.Borrowed.{borrowed_text}
use Rattle.facet_json_core.proofs.Meaning.Leaves.BorrowedLaws.{borrowed-read, borrowed-unread, borrowed-document, borrowed-strict}
use Rattle.facet_json_core.proofs.Meaning.Leaves.LeafReadings.{none-unread}
use Rattle.facet_json_core.proofs.Refusing.{either-about, event-tells}
use Rattle.facet_json_core.proofs.Meaning.OneValue.KindsPassed.{lent-passed}
use Rattle.facet_json_facet.proofs.texts.lent_out_of_line.Goals as goal

pub returns-in_err-next_of_value-clause-unread : goal.returns-in_err-next_of_value-clause-unread
returns-in_err-next_of_value-clause-unread c =
    let p = err_from_is_err_and c.from_residual.result c.from_residual.ensures.1 in
    rw (p.1, p.2) (none-unread borrowed_text _ _ c.in_err-next_of_value.ensures.lacks)

pub returns-clause-read : goal.returns-clause-read
returns-clause-read c =
    IfOk-weaker c.lent_in.result _ _ (λ s lent. borrowed-read _ _ _ s.now c.in_ok-next_of_value.ensures.walks lent) c.lent_in.ensures.lent

pub returns-clause-unread : goal.returns-clause-unread
returns-clause-unread c =
    IfErr-weaker c.lent_in.result _ _ (λ e none. borrowed-unread _ _ _ (refusal_of e) c.in_ok-next_of_value.ensures.walks none) c.lent_in.ensures.refused

pub returns-clause-document : goal.returns-clause-document
returns-clause-document c =
    IfOk-weaker c.lent_in.result _ _ (λ s lent. borrowed-document _ _ _ s.now c.in_ok-next_of_value.ensures.passed lent) c.lent_in.ensures.lent

pub returns-clause-strict : goal.returns-clause-strict
returns-clause-strict c =
    IfOk-weaker c.lent_in.result _ _ (λ s lent. borrowed-strict _ _ _ s.now c.in_ok-next_of_value.ensures.passed lent) c.lent_in.ensures.lent

pub returns-clause-tells : goal.returns-clause-tells
returns-clause-tells c =
    IfErr-weaker c.lent_in.result _ _ (λ e told. event-tells c.in_ok-next_of_value.ensures.passed (either-about _ told refl)) c.lent_in.ensures.told

pub returns-clause-free : goal.returns-clause-free
returns-clause-free c = IfOk-weaker c.lent_in.result _ _ (λ b taken. c.in_ok-next_of_value.ensures.passed.free) c.lent_in.ensures.lent

pub returns-clause-one_value : goal.returns-clause-one_value
returns-clause-one_value c =
    IfOk-weaker c.lent_in.result _ _ (λ s lent. lent-passed _ _ _ _ lent c.in_ok-next_of_value.ensures.by_kind) c.lent_in.ensures.lent
