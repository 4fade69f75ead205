-- What calls and answers of the code stand for in the definitions.
use Rattle.facet_json_core.specs.declared.script.Call.{Call as RustCall}
use Rattle.facet_json_core.specs.declared.script.Call.TheVariants as calls
use Rattle.facet_json_core.specs.declared.script.Answer.{Answer as RustAnswer}
use Rattle.facet_json_core.specs.declared.script.Answer.TheVariants as answers
use Rattle.facet_format.specs.Cursor.{Call, next, peek, events, skip, capture, save, restore, span, Answer, restored}
use Rattle.facet_format.specs.Views.{answer_of_event, answer_of_events, answer_of_skip, answer_of_capture, answer_of_save, answer_of_span}

abbrev pub call_of : RustCall → Call
call_of calls.Next = next
call_of calls.Peek = peek
call_of (calls.Events limit) = events limit
call_of calls.Skip = skip
call_of calls.Capture = capture
call_of calls.Save = save
call_of (calls.Restore point) = restore point
call_of calls.Span = span

abbrev pub answer_of : RustAnswer → Answer
answer_of (answers.Event result) = answer_of_event result
answer_of (answers.Events given result) = answer_of_events given.items result
answer_of (answers.Skipped result) = answer_of_skip result
answer_of (answers.Raw result) = answer_of_capture result
answer_of (answers.Saved result) = answer_of_save result
answer_of answers.Restored = restored
answer_of (answers.Span s) = answer_of_span s
