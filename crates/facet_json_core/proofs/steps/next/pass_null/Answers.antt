use Rattle.std.proofs.Common.{◌≡◌, true, false, ap, sym, ◌∙◌}
use Rattle.std.proofs.lemmas.Result.{err_from_is_err_and, IfErr-weaker, on_ok_weaker}
use Rattle.facet_format.specs.Complaint.{Refusal}
use Rattle.facet_format.specs.Event.{Event}
use Rattle.facet_format.specs.Views.{refusal_of}
use Rattle.facet_json_grammar.specs.Now.{Now}
use Rattle.facet_json_core.specs.Meaning.Optional.{is_null_event}
use Rattle.facet_json_core.specs.Meaning.Passing.{WalksPast, LacksAlone, LacksNull}
use Rattle.facet_json_core.proofs.Refusing.{event-tells, mismatch-about}
use Rattle.facet_json_core.proofs.Meaning.OneValue.KindsPassed.{null-passed}
use Rattle.facet_json_core.proofs.steps.next.pass_null.Goals as goal

-- Where memory alone was lacking, it was before null.
alone-null : (old : Now) (r : Refusal) → LacksAlone old r → LacksNull old r
alone-null old r lacks = record { lacks = λ w c p stands free at is. lacks.lacks w c p stands free at }

-- Where another event was passed, null did not stand there.
other-null : (old new : Now) (given : Event) (r : Refusal) → is_null_event given.kind ≡ false → WalksPast old given new → LacksNull old r
other-null old new given r other walks = record {
  lacks = λ w c p stands free at is.
      let passes = walks w c stands free in
      let same : passes.passed ≡ p = cc (passes.at_place, at) in
      let kind : given.kind ≡ p.event.kind = ap (λ (e : Event). e.kind) (sym passes.same) ∙ ap (λ q. q.event.kind) same in
      let no : false ≡ true = sym other ∙ ap is_null_event kind ∙ is in cc;
}

pub returns-in_err-next_of_value-clause-lacks : goal.returns-in_err-next_of_value-clause-lacks
returns-in_err-next_of_value-clause-lacks c =
    let p = err_from_is_err_and c.from_residual.result c.from_residual.ensures.1 in
    rw (p.1, p.2) (alone-null _ _ c.in_err-next_of_value.ensures.lacks)

pub returns-clause-passes : goal.returns-clause-passes
returns-clause-passes c =
    on_ok_weaker c.null_in.result
    (λ is. record { given = _; null = is; passed = c.in_ok-next_of_value.ensures.passed; walks = c.in_ok-next_of_value.ensures.walks })
    c.null_in.ensures.null

pub returns-clause-lacks : goal.returns-clause-lacks
returns-clause-lacks c =
    IfErr-weaker c.null_in.result _ _ (λ e other. other-null _ _ _ (refusal_of e) other c.in_ok-next_of_value.ensures.walks)
    c.null_in.ensures.refused

pub returns-clause-free : goal.returns-clause-free
returns-clause-free c = on_ok_weaker c.null_in.result (λ is. c.in_ok-next_of_value.ensures.passed.free) c.null_in.ensures.null

pub returns-clause-tells : goal.returns-clause-tells
returns-clause-tells c =
    IfErr-weaker c.null_in.result _ _ (λ e told. event-tells c.in_ok-next_of_value.ensures.passed (mismatch-about _ _ told)) c.null_in.ensures.told

pub returns-clause-one_value : goal.returns-clause-one_value
returns-clause-one_value c = on_ok_weaker c.null_in.result (λ is. null-passed _ _ _ is c.in_ok-next_of_value.ensures.by_kind) c.null_in.ensures.null
