use Rattle.std.proofs.lemmas.Grind.{common_steps}
-- The run up to the next escape, and the escape.
use Rattle.std.proofs.Common.{◌<◌, length, refl, sym, ap, ◌++◌, ◌∙◌, append-nil, arith, rules}
use Rattle.std.proofs.lemmas.List.{drop_all}
use Rattle.std.proofs.lemmas.Result.{on_ok_weaker}
use Rattle.std.specs.List.{flat_map}
use Rattle.facet_json_grammar.specs.Quoted.{escaped}
use Rattle.facet_json_serializer.proofs.Escapes.{escaped-to, escaped-at, put_out}
use Rattle.facet_json_serializer.proofs.quote.push_content.Goals as goal

pub returns-then-stop-bytes : goal.returns-then-stop-bytes
returns-then-stop-bytes c =
    let bytes = c.args.bytes.now in
    let stop = c.verbatim_end-stop.result in
    let now = c.push_run.new.out in
    let split = escaped-to bytes c.loop-at.at stop c.verbatim_end-stop.ensures.value in
    let last = sym (append-nil now) ∙ ap (λ l. now ++ flat_map escaped l) (sym (drop_all stop bytes (omega arith))) in
    on_ok_weaker c.push_run.result (λ e. last ∙ put_out _ _ _ _ _ _ e split c.loop-at.invariant.same) c.push_run.ensures

pub loop-at-preserved : goal.loop-at-preserved
loop-at-preserved c =
    let bytes = c.args.bytes.now in
    let stop = c.verbatim_end-stop.result in
    let lt : stop < length bytes = omega (arith, c.verbatim_end-stop.ensures.within, c.if-stop-bytes.false) in
    let run = put_out _ _ _ _ _ _ refl (escaped-to bytes c.loop-at.at stop c.verbatim_end-stop.ensures.value) c.loop-at.invariant.same in
    record {
      within = omega (arith, lt);
      same = put_out _ _ _ _ _ _ c.in_ok-push_run_and_escaped.ensures (escaped-at bytes stop lt) run;
    }

pub returns-in_err-push_run_and_escaped : goal.returns-in_err-push_run_and_escaped
returns-in_err-push_run_and_escaped c = search rules

pub returns : goal.returns
returns c = grind (arith, common_steps)
