-- How refusals are told by readers of a type, on every input; and that a value that is skipped or captured leaves the parser unrefused.
use Rattle.std.proofs.Common.{◌≡◌, Ok, List, ℕ, Option, None, Some, refl}
use Rattle.facet_format.specs.Cursor.{Answer, spans, Cursor, World, skip, skipped, capture, raw, Step, repeats, skips, skips_without_memory, skips_nothing, captures, captures_without_memory, captures_nothing}
use Rattle.facet_format.specs.Span.{Span}
use Rattle.facet_format.specs.Views.{answer_of_span, span_of}
use Rattle.facet_format.specs.declared.event.Span.{Span as RustSpan}
use Rattle.facet_json_grammar.specs.Move.{Moves}
use Rattle.facet_json_grammar.specs.Now.{Now, on_input}
use Rattle.facet_json_core.specs.Refusing.{ComesTo}
pub use Rattle.facet_json_core.proofs.Refusing.{stays-there, goes-there, comes-then, later-passed, event-passed, last-passed, tells-later, call-tells, over-tells, mismatch-about, range-about, either-about, lacks-about, end-tells, event-tells, lacks-tells}
use Rattle.facet_json_core.specs.Meaning.Nodes.{KeepsOn}

pub keeps-there : {old new : Now} → KeepsOn old new → ComesTo old new
keeps-there k = record { onward = k.onward; by_calls = k.by_calls }

skip_frees : {P : Type 0} (w : World P) (c d : Cursor P) (answer : Answer) → answer ≡ skipped (Ok tt) → Step w c skip answer d → d.refusal ≡ None
skip_frees w c d answer is (repeats s call _ f a) = cc
skip_frees w c d answer is (skips part place none at what) = none
skip_frees w c d answer is (skips_without_memory part none at has) = cc
skip_frees w c d answer is (skips_nothing part r none at what) = cc

capture_frees : {P : Type 0} (w : World P) (c d : Cursor P) (answer : Answer) (text : Option (List ℕ)) → answer ≡ raw (Ok text) →
    Step w c capture answer d → d.refusal ≡ None
capture_frees w c d answer text is (repeats s call _ f a) = cc
capture_frees w c d answer text is (captures part given place none at what) = none
capture_frees w c d answer text is (captures_without_memory part none at has) = cc
capture_frees w c d answer text is (captures_nothing part r none at what) = cc

-- After a skip the parser is not refused.
pub skip-frees : (old new : Now) → Moves old skip (skipped (Ok tt)) new → new.cursor.refusal ≡ None
skip-frees old new move = skip_frees (on_input old.buffer old.language) old.cursor new.cursor _ refl move.step

-- Nor is it after a capture.
pub capture-frees : (old new : Now) (text : Option (List ℕ)) → Moves old capture (raw (Ok text)) new → new.cursor.refusal ≡ None
capture-frees old new text move = capture_frees (on_input old.buffer old.language) old.cursor new.cursor _ text refl move.step

-- The current span is the one that is told.
pub told-last : (seen : RustSpan) (last : Span) → answer_of_span (Some seen) ≡ spans (Some last) → span_of seen ≡ last
told-last seen last told = cc
