use Rattle.std.proofs.Common.{refl}
use Rattle.std.proofs.lemmas.Result.{IfErr-weaker, MatchResult-from_both, on_ok_weaker}
use Rattle.facet_json_core.proofs.DocumentPassed.{written-only, written-document, written-over, unwritten-only, unwritten-refused}
use Rattle.facet_json_core.proofs.StrictFromRoot.{strict-written, strict-written_only, strict-unwritten_only}
use Rattle.facet_json_core.proofs.value.transcode.Goals as goal

pub returns-clause-document : goal.returns-clause-document
returns-clause-document c input mode w fresh is =
    let done = rw fresh at (c.write_value.ensures.written w is) in
    on_ok_weaker c.write_value.result (λ h. written-document input mode w _ _ h) done

pub returns-clause-refused : goal.returns-clause-refused
returns-clause-refused c input mode w fresh is =
    let refused = rw fresh at (c.write_value.ensures.unwritten w is) in
    IfErr-weaker c.write_value.result _ _ (λ e h. unwritten-refused input mode e h) (refused refl)

pub returns-clause-only : goal.returns-clause-only
returns-clause-only c input mode w fresh is root value d =
    let done = rw fresh at (c.write_value.ensures.written w is) in
    let refused = rw fresh at (c.write_value.ensures.unwritten w is) in
    MatchResult-from_both c.write_value.result _ _
    (on_ok_weaker c.write_value.result (λ h. written-only input mode w _ _ h root value d) done)
    (IfErr-weaker c.write_value.result _ _ (λ e h. unwritten-only input mode e h root value d) (refused refl))

pub returns-clause-over : goal.returns-clause-over
returns-clause-over c input mode w fresh is =
    let done = rw fresh at (c.write_value.ensures.written w is) in
    on_ok_weaker c.write_value.result (λ h. written-over input mode w _ _ h) done

pub returns-clause-strict : goal.returns-clause-strict
returns-clause-strict c input w fresh is =
    let done = rw fresh at (c.write_value.ensures.written w is) in
    on_ok_weaker c.write_value.result (λ h over. strict-written input w _ _ h over) done

pub returns-clause-strict_only : goal.returns-clause-strict_only
returns-clause-strict_only c input w fresh is root value d =
    let done = rw fresh at (c.write_value.ensures.written w is) in
    let refused = rw fresh at (c.write_value.ensures.unwritten w is) in
    MatchResult-from_both c.write_value.result _ _
    (on_ok_weaker c.write_value.result (λ h. strict-written_only input w _ _ h root value d) done)
    (IfErr-weaker c.write_value.result _ _ (λ e h. strict-unwritten_only input e h root value d) (refused refl))
