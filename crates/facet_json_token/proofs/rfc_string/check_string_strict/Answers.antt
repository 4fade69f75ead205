-- The first wrong byte of what is left: none at the end, the one that stands there, the one that is escaped, or one after an escape.
use Rattle.std.proofs.Common.{◌≡◌, ◌<◌, ◌≤◌, ◌+◌, suc, false, true, Err, length, get_or, slice_range, sym, ap, ◌∙◌, arith, subst}
use Rattle.std.proofs.lemmas.Bool.{ne_eqb}
use Rattle.facet_json_token.specs.Strict.{may_stand}
use Rattle.facet_json_token.specs.StrictViews.{IsWrong, byte_fault}
use Rattle.facet_json_token.specs.Views.{cut_of}
use Rattle.facet_json_token.proofs.StringSteps.{wrong_from, from-run, none-left, from-control, from-lone, from-escaped, from-after, none-wrong, tells, stop-there, control-there}
use Rattle.facet_json_token.proofs.rfc_string.check_string_strict.Goals as goal

pub returns-then-at-end : goal.returns-then-at-end
returns-then-at-end c =
    let buf = c.args.buf.now in
    let fits : c.args.end ≤ length buf = c.requires.within in
    let run = c.run_end_within-at.ensures in
    let stop = c.run_end_within-at.result in
    none-wrong buf c.args.end fits c.args.start
    (c.loop-at.invariant.same fits ∙ from-run buf c.args.end fits c.loop-at.at stop run.ahead run.within run.run ∙ none-left buf c.args.end fits stop (omega arith))

pub returns-then-buf-at-ne92 : goal.returns-then-buf-at-ne92
returns-then-buf-at-ne92 c =
    let buf = c.args.buf.now in
    let fits : c.args.end ≤ length buf = c.requires.within in
    let run = c.run_end_within-at.ensures in
    let stop = c.run_end_within-at.result in
    let less : stop < c.args.end = omega arith in
    let there = stop-there buf c.loop-at.at stop (omega arith) run.ahead (run.stops less) in
    let low = control-there (get_or buf stop 0) there (ne_eqb _ _ (λ e. absurd (omega arith))) in
    let found = c.loop-at.invariant.same fits ∙ from-run buf c.args.end fits c.loop-at.at stop run.ahead run.within run.run ∙ from-control buf c.args.end fits stop less low in
    subst (λ e. IsWrong (slice_range buf c.args.start c.args.end) c.args.start (cut_of (Err e))) (sym c.wrong.ensures) (tells buf c.args.end fits c.args.start stop less found)

pub returns-then-escaped-end : goal.returns-then-escaped-end
returns-then-escaped-end c =
    let buf = c.args.buf.now in
    let fits : c.args.end ≤ length buf = c.requires.within in
    let run = c.run_end_within-at.ensures in
    let stop = c.run_end_within-at.result in
    none-wrong buf c.args.end fits c.args.start
    (c.loop-at.invariant.same fits ∙ from-run buf c.args.end fits c.loop-at.at stop run.ahead run.within run.run ∙ from-lone buf c.args.end fits stop (omega arith) (omega arith))

pub returns-then-not-may_be_escaped : goal.returns-then-not-may_be_escaped
returns-then-not-may_be_escaped c =
    let buf = c.args.buf.now in
    let fits : c.args.end ≤ length buf = c.requires.within in
    let run = c.run_end_within-at.ensures in
    let stop = c.run_end_within-at.result in
    let next : stop + 1 ≡ suc stop = omega arith in
    let less : suc stop < c.args.end = omega arith in
    let bad : may_stand true (get_or buf (suc stop) 0) ≡ false = grind (arith, c.may_be_escaped.ensures) in
    let found = c.loop-at.invariant.same fits ∙ from-run buf c.args.end fits c.loop-at.at stop run.ahead run.within run.run
    ∙ from-escaped buf c.args.end fits stop (omega arith) less bad in
    let same = c.wrong-then-not-may_be_escaped.ensures ∙ ap (λ k. byte_fault (get_or buf k 0) k) next in
    subst (λ e. IsWrong (slice_range buf c.args.start c.args.end) c.args.start (cut_of (Err e))) (sym same) (tells buf c.args.end fits c.args.start (suc stop) less found)

pub loop-at-preserved : goal.loop-at-preserved
loop-at-preserved c =
    let buf = c.args.buf.now in
    let fits : c.args.end ≤ length buf = c.requires.within in
    let run = c.run_end_within-at.ensures in
    let stop = c.run_end_within-at.result in
    let two : (stop + 1) + 1 ≡ suc (suc stop) = omega arith in
    let good : may_stand true (get_or buf (suc stop) 0) ≡ true = grind (arith, c.may_be_escaped.ensures) in
    let on = c.loop-at.invariant.same fits ∙ from-run buf c.args.end fits c.loop-at.at stop run.ahead run.within run.run
    ∙ from-after buf c.args.end fits stop (omega arith) (omega arith) good in
    record {
      ahead = omega (arith, c.loop-at.invariant.ahead);
      within = omega arith;
      same = λ _. on ∙ ap (wrong_from buf c.args.end fits) (sym two);
    }
