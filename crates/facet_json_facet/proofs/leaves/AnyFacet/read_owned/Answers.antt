use Rattle.std.proofs.lemmas.Result.{IfOk-weaker, IfErr-weaker}
use Rattle.facet_format.specs.Views.{refusal_of}
use Rattle.facet_json_core.proofs.Refusing.{lacks-tells}
use Rattle.facet_json_core.proofs.Meaning.Leaves.LeafReadings.{leaf-read, leaf-refused, leaf-document, leaf-strict}
use Rattle.facet_json_facet.proofs.leaves.AnyFacet.read_owned.Goals as goal

pub returns-in-Some-clause-read : goal.returns-in-Some-clause-read
returns-in-Some-clause-read g c =
    let took = c.in-Some.ensures in
    IfOk-weaker c.in-Some.answer _ _ (λ v taken. leaf-read g.T.FromScalar.takes _ _ took.0 (g.T.FromScalar.view v) took.1.walks taken) took.2.is

pub returns-in-Some-clause-unread : goal.returns-in-Some-clause-unread
returns-in-Some-clause-unread g c =
    let took = c.in-Some.ensures in
    IfErr-weaker c.in-Some.answer _ _ (λ e why. leaf-refused g.T.FromScalar.takes _ _ took.0 (refusal_of e) took.1.walks why) took.2.refused

pub returns-in-Some-clause-document : goal.returns-in-Some-clause-document
returns-in-Some-clause-document g c whole =
    let took = c.in-Some.ensures in
    IfOk-weaker c.in-Some.answer _ _ (λ v taken. leaf-document g.T.FromScalar.takes _ _ took.0 (g.T.FromScalar.view v) took.1.passed taken) took.2.is

pub returns-in-Some-clause-strict : goal.returns-in-Some-clause-strict
returns-in-Some-clause-strict g c whole =
    let took = c.in-Some.ensures in
    IfOk-weaker c.in-Some.answer _ _ (λ v taken. leaf-strict g.T.FromScalar.takes _ _ took.0 (g.T.FromScalar.view v) took.1.passed taken) took.2.is

pub returns-in-Some-clause-tells : goal.returns-in-Some-clause-tells
returns-in-Some-clause-tells g c =
    let took = c.in-Some.ensures in
    IfErr-weaker c.in-Some.answer _ _ (λ e told. lacks-tells took.1.passed (g.met.T.FromScalar.refuses_about _ _ told)) took.2.told

pub returns-in-None-clause-read : goal.returns-in-None-clause-read
returns-in-None-clause-read g c = rw c.in-None.ensures at c.take_out_of_line.ensures.read

pub returns-in-None-clause-unread : goal.returns-in-None-clause-unread
returns-in-None-clause-unread g c = rw c.in-None.ensures at c.take_out_of_line.ensures.unread
