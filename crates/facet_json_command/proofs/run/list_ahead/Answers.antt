use Rattle.std.proofs.Common.{refl, subst, ◌∙◌, inr}
use Rattle.std.proofs.lemmas.Result.{err_from_is_err_and}
use Rattle.facet_format.specs.Views.{parse_refusal}
use Rattle.facet_json_grammar.specs.UnreadLaws.{RefusalWithin}
use Rattle.facet_json_command.proofs.Printing.{stops_within}
use Rattle.facet_json_command.proofs.Listing.{none_so_far, one_more_event, last_answer, line_stopped}
use Rattle.facet_json_command.proofs.run.list_ahead.Goals as goal

pub loop-event-init : goal.loop-event-init
loop-event-init g c = record {
  listed = λ language input is. none_so_far _ _ _ _ is;
  same = refl;
  unmarked = refl;
}

pub loop-event-preserved : goal.loop-event-preserved
loop-event-preserved g c = record {
  listed = λ language input is.
      let move = rw c.in-Ok-Some.field-0-is at c.in-Ok-Some.ensures.moves in
      one_more_event _ _ _ _ _ _ _ _ (c.loop-event.invariant.listed language input is) move c.in_ok-write_event-in-Ok-Some.ensures.printed;
  same = c.in-Ok-Some.ensures.onward.input.buffer ∙ c.loop-event.invariant.same;
  unmarked = c.in_ok-write_event-in-Ok-Some.ensures.marks ∙ c.loop-event.invariant.unmarked;
}

pub returns-in_err-write_event-in-Ok-Some-clause-listed : goal.returns-in_err-write_event-in-Ok-Some-clause-listed
returns-in_err-write_event-in-Ok-Some-clause-listed g c language input is =
    let p = err_from_is_err_and c.from_residual.result c.from_residual.ensures.1 in
    rw (p.1, p.2) (line_stopped _ _ _ _ _ _ _ (c.loop-event.invariant.listed language input is) c.in_err-write_event-in-Ok-Some.ensures.printed)

pub returns-in_err-write_event-in-Ok-Some-clause-within : goal.returns-in_err-write_event-in-Ok-Some-clause-within
returns-in_err-write_event-in-Ok-Some-clause-within g c =
    let p = err_from_is_err_and c.from_residual.result c.from_residual.ensures.1 in
    rw (p.1, p.2) (stops_within _ _ _ _ c.in_err-write_event-in-Ok-Some.ensures.printed)

pub returns-in-Ok-None-clause-listed : goal.returns-in-Ok-None-clause-listed
returns-in-Ok-None-clause-listed g c language input is =
    let move = rw c.in-Ok-None.field-0-is at c.in-Ok-None.ensures.moves in
    last_answer _ _ _ _ _ _ _ (c.loop-event.invariant.listed language input is) move

pub returns-in-Err-clause-listed : goal.returns-in-Err-clause-listed
returns-in-Err-clause-listed g c language input is = inr (record {
  refusal = parse_refusal c.in-Err.error;
  listed = last_answer _ _ _ _ _ _ _ (c.loop-event.invariant.listed language input is) c.in-Err.ensures.moves;
  has_code = c.code.ensures;
  has_span = refl;
})

pub returns-in-Err-clause-within : goal.returns-in-Err-clause-within
returns-in-Err-clause-within g c =
    let same = c.in-Err.ensures.onward.input.buffer ∙ c.loop-event.invariant.same in
    subst (λ buffer. RefusalWithin buffer (parse_refusal c.in-Err.error)) same c.in-Err.ensures.within
