-- Runs of the cursor by computation: lists of calls on the walk of `[1]`, and their answers.
use Rattle.std.proofs.Common.{◌≡◌, ℕ, true, false, [], ◌∷◌, Some, None, refl, arith}
use Rattle.std.specs.Prelude.{Ok, Err, codes}
use Rattle.facet_format.specs.Span.{span_at}
use Rattle.std.specs.Str.{is_utf8, chars}
use lib.Utf8.{encode}
use Rattle.facet_format.specs.Part.{part_at, Source}
use Rattle.facet_format.specs.Complaint.{Refusal, refusal_at, unexpected_eof, invalid_value}
use Rattle.facet_format.specs.Event.{EventKind, Event, Passed, array, sequence_start, sequence_end, scalar, u64, holds_made}
use Rattle.facet_format.specs.Cursor.{next, peek, events, skip, capture, save, restore, span, Answer, event, batch, skipped, raw, saved, restored, spans, Spot, Cursor, start, on_walk, peeked_at, at_spot, Comes, no_event, one_event, Step, Run, no_calls, one_call, repeats, passes, passes_the_end, peeks, peeks_without_memory, peeks_at_the_end, peeks_at_nothing, gives_none, gives, skips, skips_nothing, captures, captures_nothing, saves, restores, restores_nothing, tells}
use Rattle.facet_format.proofs.CursorSteps.{same-event}

-- an event of one token, with its offset and length
abbrev at : EventKind → ℕ → ℕ → Event
at kind offset len = record { kind = kind; span = span_at offset len }

abbrev passed : Event → Passed
passed e = record { event = e; last = e.span }

abbrev opens : Event
opens = at (sequence_start array) 0 1

abbrev one : Event
one = at (scalar (u64 1)) 1 1

abbrev closes : Event
closes = at sequence_end 2 1

-- the walk of `[1]`
abbrev w : Source
w = record { bytes = 0x5b ∷ 0x31 ∷ 0x5d ∷ []; events = passed opens ∷ passed one ∷ passed closes ∷ [] }

-- where so many events are passed
abbrev spot : ℕ → Spot ℕ
spot n = record { place = n; peeked = false }

-- a cursor after all of them
abbrev at_end : Cursor ℕ
at_end = record start { spot = spot 3 }

-- Event by event, then the end, again and again.
next_row : Run (on_walk w) start (next ∷ next ∷ next ∷ next ∷ next ∷ [])
    (event (Ok (Some opens)) ∷ event (Ok (Some one)) ∷ event (Ok (Some closes)) ∷ event (Ok None) ∷ event (Ok None) ∷ []) at_end
next_row =
    one_call _ _ _ _ _ _ _ (passes (passed opens) refl refl) (one_call _ _ _ _ _ _ _ (passes (passed one) refl refl)
    (one_call _ _ _ _ _ _ _ (passes (passed closes) refl refl) (one_call _ _ _ _ _ _ _ (passes_the_end refl refl)
    (one_call _ _ _ _ _ _ _ (passes_the_end refl refl) (no_calls _)))))

-- A peek shows the event's span, and passes nothing.
peek_row : Run (on_walk w) start (span ∷ peek ∷ span ∷ next ∷ [])
    (spans (Some (span_at 0 0)) ∷ event (Ok (Some opens)) ∷ spans (Some (span_at 0 1)) ∷ event (Ok (Some opens)) ∷ [])
    (record start { spot = spot 1 })
peek_row =
    one_call _ _ _ _ _ _ _ tells (one_call _ _ _ _ _ _ _ (peeks (passed opens) refl refl)
    (one_call _ _ _ _ _ _ _ tells (one_call _ _ _ _ _ _ _ (passes (passed opens) refl refl) (no_calls _))))

-- A bracket that was peeked at is peeked at again, and nothing else is answered: it is read already.
second_peek_row : (d : Cursor ℕ) (answer : Answer) (r : Refusal) → answer ≡ event (Err r) →
    Step (on_walk w) (at_spot start (peeked_at (spot 0))) peek answer d → ⊥
second_peek_row d answer r e (repeats q call told is repeats_it) = cc
second_peek_row d answer r e (peeks p none up) = cc
second_peek_row d answer r e (peeks_without_memory p none up takes) =
    let first : passed opens ≡ p = same-event (passed opens) p refl up in
    let made : holds_made (sequence_start array) ≡ true = rw (← first) at takes in cc
second_peek_row d answer r e (peeks_at_the_end none up) = cc
second_peek_row d answer r e (peeks_at_nothing q none up refuses) = absurd refuses

-- All three come from the start on.
all : Comes (on_walk w) 0 (opens ∷ one ∷ closes ∷ []) 3
all =
    one_event 0 3 (passed opens) _ refl (one_event 1 3 (passed one) _ refl (one_event 2 3 (passed closes) [] refl (no_event 3)))

-- All that are left at once, a peeked one first; none where none is asked for.
batch_row : Run (on_walk w) start (peek ∷ events 9 ∷ events 0 ∷ span ∷ [])
    (event (Ok (Some opens)) ∷ batch (opens ∷ one ∷ closes ∷ []) (Ok 3) ∷ batch [] (Ok 0) ∷ spans (Some (span_at 2 1)) ∷ []) at_end
batch_row =
    one_call _ _ _ _ _ _ _ (peeks (passed opens) refl refl)
    (one_call _ _ _ _ _ _ _ (gives 8 3 _ 3 refl all refl (omega arith) (λ le. refl))
    (one_call _ _ _ _ _ _ _ gives_none (one_call _ _ _ _ _ _ _ tells (no_calls _))))

-- A point that was restored is used up.
restore_row : Run (on_walk w) start (next ∷ save ∷ next ∷ restore 1 ∷ next ∷ restore 1 ∷ next ∷ [])
    (event (Ok (Some opens)) ∷ saved (Ok 1) ∷ event (Ok (Some one)) ∷ restored ∷ event (Ok (Some one)) ∷ restored ∷
    event (Ok (Some closes)) ∷ [])
    (record start { spot = spot 3; counter = 1 })
restore_row =
    one_call _ _ _ _ _ _ _ (passes (passed opens) refl refl) (one_call _ _ _ _ _ _ _ (saves refl (omega arith))
    (one_call _ _ _ _ _ _ _ (passes (passed one) refl refl) (one_call _ _ _ _ _ _ _ (restores 1 (spot 1) refl)
    (one_call _ _ _ _ _ _ _ (passes (passed one) refl refl) (one_call _ _ _ _ _ _ _ (restores_nothing 1 refl)
    (one_call _ _ _ _ _ _ _ (passes (passed closes) refl refl) (no_calls _)))))))

-- where no value is left: after the last token
abbrev no_value : Refusal
no_value = refusal_at (unexpected_eof (codes "value")) (span_at 3 0)

-- A skip at the start passes all, up to the matching end; at the end it is refused, again and again.
skip_row : Run (on_walk w) start (peek ∷ skip ∷ span ∷ next ∷ skip ∷ next ∷ [])
    (event (Ok (Some opens)) ∷ skipped (Ok tt) ∷ spans (Some (span_at 2 1)) ∷ event (Ok None) ∷ skipped (Err no_value) ∷
    event (Err no_value) ∷ [])
    (record at_end { refusal = Some no_value })
skip_row =
    one_call _ _ _ _ _ _ _ (peeks (passed opens) refl refl)
    (one_call _ _ _ _ _ _ _ (skips _ 3 refl refl refl) (one_call _ _ _ _ _ _ _ tells
    (one_call _ _ _ _ _ _ _ (passes_the_end refl refl) (one_call _ _ _ _ _ _ _ (skips_nothing _ no_value refl refl refl)
    (one_call _ _ _ _ _ _ _ (repeats no_value _ _ refl refl) (no_calls _))))))

-- A scalar and an end are skipped alone.
skip_inside_row : Run (on_walk w) start (next ∷ skip ∷ skip ∷ []) (event (Ok (Some opens)) ∷ skipped (Ok tt) ∷ skipped (Ok tt) ∷ []) at_end
skip_inside_row =
    one_call _ _ _ _ _ _ _ (passes (passed opens) refl refl)
    (one_call _ _ _ _ _ _ _ (skips _ 2 refl refl refl) (one_call _ _ _ _ _ _ _ (skips _ 3 refl refl refl) (no_calls _)))

-- no raw text is at the closing bracket
abbrev at_an_end : Refusal
at_an_end = refusal_at (invalid_value (codes "unexpected end event in capture_raw")) (span_at 2 0)

-- Both are texts.
all_is_text : is_utf8 (0x5b ∷ 0x31 ∷ 0x5d ∷ []) ≡ true
unfolding is_utf8 chars encode
all_is_text = refl

one_is_text : is_utf8 (0x31 ∷ []) ≡ true
unfolding is_utf8 chars encode
one_is_text = refl

-- A capture answers the bytes from the first bracket to the last, or a scalar's; at an end it is refused.
capture_row : Run (on_walk w) start (capture ∷ []) (raw (Ok (Some (0x5b ∷ 0x31 ∷ 0x5d ∷ []))) ∷ []) at_end
capture_row = one_call _ _ _ _ _ _ _ (captures (part_at w 0) _ 3 refl refl (rw all_is_text refl)) (no_calls _)

capture_inside_row : Run (on_walk w) start (next ∷ capture ∷ capture ∷ [])
    (event (Ok (Some opens)) ∷ raw (Ok (Some (0x31 ∷ []))) ∷ raw (Err at_an_end) ∷ []) (record start { spot = spot 2; refusal = Some at_an_end })
capture_inside_row =
    one_call _ _ _ _ _ _ _ (passes (passed opens) refl refl)
    (one_call _ _ _ _ _ _ _ (captures (part_at w 1) _ 2 refl refl (rw one_is_text refl))
    (one_call _ _ _ _ _ _ _ (captures_nothing _ at_an_end refl refl refl) (no_calls _)))
