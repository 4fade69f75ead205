use Rattle.std.proofs.Common.{inl, inr, rules}
use Rattle.facet_json_command.specs.Arguments.{fmt, drive}
use Rattle.facet_json_command.specs.OutcomeViews.{words_of, command_view}
use Rattle.facet_json_command.proofs.OneCommand.{one_command}
use Rattle.facet_json_command.proofs.Unasked.{no_memory_answers, no_memory_only}
use Rattle.facet_json_command.proofs.run.run.Goals as goal

pub returns-in-Ok-clause-told : goal.returns-in-Ok-clause-told
returns-in-Ok-clause-told g c none = absurd (none (command_view c.in-Ok.command) c.in-Ok.ensures.asked)

pub returns-in-Ok-clause-untouched : goal.returns-in-Ok-clause-untouched
returns-in-Ok-clause-untouched g c none = absurd (none (command_view c.in-Ok.command) c.in-Ok.ensures.asked)

pub returns-in-Ok-clause-answer : goal.returns-in-Ok-clause-answer
returns-in-Ok-clause-answer g c command asks =
    rw (one_command (words_of c.args.args.now) command (command_view c.in-Ok.command) asks c.in-Ok.ensures.asked) c.obey.ensures.answer

pub returns-in-Ok-clause-refused : goal.returns-in-Ok-clause-refused
returns-in-Ok-clause-refused g c language pretty code span asks =
    let same = one_command (words_of c.args.args.now) (command_view c.in-Ok.command) (fmt language pretty) c.in-Ok.ensures.asked asks in
    (rw same at c.obey.ensures.refused) code span

pub returns-in-Ok-clause-only : goal.returns-in-Ok-clause-only
returns-in-Ok-clause-only g c language pretty asks =
    let same = one_command (words_of c.args.args.now) (command_view c.in-Ok.command) (fmt language pretty) c.in-Ok.ensures.asked asks in
    rw same at c.obey.ensures.only

pub returns-in-Ok-clause-driven : goal.returns-in-Ok-clause-driven
returns-in-Ok-clause-driven g c language calls asks =
    let same = one_command (words_of c.args.args.now) (command_view c.in-Ok.command) (drive language calls) c.in-Ok.ensures.asked asks in
    rw same at c.obey.ensures.driven

pub returns-in-Err-clause-answer : goal.returns-in-Err-clause-answer
returns-in-Err-clause-answer g c command asks =
    elim c.in-Err.ensures.refused [
      | inl memory ↦ no_memory_answers command _ _ _ memory
      | inr wrong ↦ absurd (wrong.1 command asks)
    ]

pub returns-in-Err-clause-only : goal.returns-in-Err-clause-only
returns-in-Err-clause-only g c language pretty asks =
    elim c.in-Err.ensures.refused [
      | inl memory ↦ no_memory_only language _ _ memory
      | inr wrong ↦ absurd (wrong.1 (fmt language pretty) asks)
    ]

pub returns-in-Err-clause-driven : goal.returns-in-Err-clause-driven
returns-in-Err-clause-driven g c language calls asks =
    elim c.in-Err.ensures.refused [
      | inl memory ↦ inr (inl memory)
      | inr wrong ↦ absurd (wrong.1 (drive language calls) asks)
    ]

pub returns-in-Err-clause-usage : goal.returns-in-Err-clause-usage
returns-in-Err-clause-usage c = search rules

pub returns-in-Err-clause-told : goal.returns-in-Err-clause-told
returns-in-Err-clause-told c = search rules

pub returns-in-Err-clause-untouched : goal.returns-in-Err-clause-untouched
returns-in-Err-clause-untouched c = search rules

pub returns-in-Err-clause-refused : goal.returns-in-Err-clause-refused
returns-in-Err-clause-refused c = search rules

pub returns-in-Err-clause-grows : goal.returns-in-Err-clause-grows
returns-in-Err-clause-grows c = search rules
