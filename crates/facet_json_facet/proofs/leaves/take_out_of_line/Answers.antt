use Rattle.std.proofs.lemmas.Result.{err_from_is_err_and, IfOk-weaker, IfErr-weaker}
use Rattle.facet_format.specs.Views.{refusal_of}
use Rattle.facet_json_core.proofs.Refusing.{lacks-tells}
use Rattle.facet_json_core.specs.Meaning.Readings.{leaf}
use Rattle.facet_json_core.proofs.Meaning.Leaves.LeafReadings.{leaf-read, leaf-refused, leaf-document, leaf-strict, none-unread}
use Rattle.facet_json_facet.proofs.leaves.take_out_of_line.Goals as goal

pub returns-in_err-next_of_value-clause-unread : goal.returns-in_err-next_of_value-clause-unread
returns-in_err-next_of_value-clause-unread g c =
    let p = err_from_is_err_and c.from_residual.result c.from_residual.ensures.1 in
    rw (p.1, p.2) (none-unread (leaf g.T.FromScalar.takes) _ _ c.in_err-next_of_value.ensures.lacks)

pub returns-clause-read : goal.returns-clause-read
returns-clause-read g c =
    IfOk-weaker c.take.result _ _ (λ v taken. leaf-read g.T.FromScalar.takes _ _ _ (g.T.FromScalar.view v) c.in_ok-next_of_value.ensures.walks taken) c.take.ensures.taken

pub returns-clause-unread : goal.returns-clause-unread
returns-clause-unread g c =
    IfErr-weaker c.take.result _ _ (λ e why. leaf-refused g.T.FromScalar.takes _ _ _ (refusal_of e) c.in_ok-next_of_value.ensures.walks why) c.take.ensures.refused

pub returns-clause-document : goal.returns-clause-document
returns-clause-document g c =
    IfOk-weaker c.take.result _ _ (λ v taken. leaf-document g.T.FromScalar.takes _ _ _ (g.T.FromScalar.view v) c.in_ok-next_of_value.ensures.passed taken) c.take.ensures.taken

pub returns-clause-strict : goal.returns-clause-strict
returns-clause-strict g c =
    IfOk-weaker c.take.result _ _ (λ v taken. leaf-strict g.T.FromScalar.takes _ _ _ (g.T.FromScalar.view v) c.in_ok-next_of_value.ensures.passed taken) c.take.ensures.taken

pub returns-clause-tells : goal.returns-clause-tells
returns-clause-tells g c =
    IfErr-weaker c.take.result _ _ (λ e told. lacks-tells c.in_ok-next_of_value.ensures.passed (g.met.T.FromScalar.refuses_about _ _ told)) c.take.ensures.told
