-- Reading by the next event alone ends: there are no more events than bytes.
use Rattle.std.proofs.Common.{◌≡◌, ℕ, ◌<◌, List, ◌∷◌, length, Option, Some, None, refl, arith}
use Rattle.std.specs.Prelude.{Result, Ok, Err}
use Rattle.facet_json_token.specs.Gap.{Mode}
use Rattle.facet_format.specs.Complaint.{Refusal}
use Rattle.facet_format.specs.Event.{Event}
use Rattle.facet_format.specs.Cursor.{Call, next, Answer, event, World, Cursor, Step, repeats, passes, passes_without_memory, passes_the_end, passes_nothing, Run, one_call}
use Rattle.facet_json_grammar.specs.Reader.{Reader}
use Rattle.facet_json_grammar.specs.Now.{Now, fresh, fresh_in, on_input, ahead}
use Rattle.facet_json_grammar.specs.StrictHeadline.{EndsInTimeIn}
use Rattle.facet_json_grammar.specs.Move.{Moves, MovesAll}
use Rattle.facet_json_grammar.specs.Within.{NowWithin}
use Rattle.facet_json_grammar.specs.Alone.{AllNext, no_call, one_next}
use Rattle.facet_json_grammar.specs.CallLaws.{Ends, at_the_end, at_a_refusal, past_event}
use Rattle.facet_json_grammar.proofs.MoveLaws.{with_cursor}
use Rattle.facet_json_grammar.proofs.Spans.AnswersWithin.{fresh-within, fresh-within-in, moves-within}
use Rattle.facet_json_grammar.proofs.Spans.BytesAhead.{next-lowers}

-- What the next event is answered with.
data AnswersNext : Answer → Type 0 where
  one : (result : Result (Option Event) Refusal) → AnswersNext (event result)

answers-next : {P : Type 0} (w : World P) (c d : Cursor P) {answer : Answer} → Step w c next answer d → AnswersNext answer
answers-next w c d (repeats r call answer e a) =
    let same : answer ≡ event (Err r) = cc in rw same (one (Err r))
answers-next w c d (passes p none comes) = one _
answers-next w c d (passes_without_memory p none comes takes off) = one _
answers-next w c d (passes_the_end none e) = one _
answers-next w c d (passes_nothing r none e so) = one _

-- The first answer, and the others.
first-ends : (now between : Now) {answer : Answer} (answers : List Answer) → NowWithin now → AnswersNext answer →
    Moves now next answer between → (ahead between < ahead now → Ends answers) → Ends (answer ∷ answers)
first-ends now between answers good (one (Ok None)) move more = at_the_end answers
first-ends now between answers good (one (Err r)) move more = at_a_refusal r answers
first-ends now between answers good (one (Ok (Some e))) move more =
    past_event e answers (more (next-lowers now good between e move))

-- Of more calls than there are bytes ahead one is answered with the end or a refusal.
ahead-ends : (now : Now) (d : Cursor Reader) (calls : List Call) (answers : List Answer) → NowWithin now → AllNext calls →
    ahead now < length calls → Run (on_input now.buffer now.language) now.cursor calls answers d → Ends answers
ahead-ends now d _ _ good no_call h run = absurd (omega (arith, h))
ahead-ends now d _ _ good (one_next _ only) h (one_call c between _ call answer calls answers step more) =
    let later = with_cursor now between in
    let move : Moves now next answer later = record { input = record { buffer = refl; language = refl }; step = step } in
    first-ends now later answers good (answers-next (on_input now.buffer now.language) now.cursor between step) move
    (λ less. ahead-ends later d calls answers (moves-within now good later move).parser only (omega (arith, less, h)) more)

-- So it is of a new parser, and of more calls than the input has bytes.
pub next-ends-in : EndsInTimeIn
next-ends-in buffer language new calls answers only h all =
    ahead-ends (fresh_in buffer language) new.cursor calls answers (fresh-within-in buffer language) only (omega (arith, h)) all.run

pub next-ends : (buffer : List ℕ) (mode : Mode) (new : Now) (calls : List Call) (answers : List Answer) → AllNext calls →
    length buffer < length calls → MovesAll (fresh buffer mode) calls answers new → Ends answers
next-ends buffer mode new calls answers only h all =
    ahead-ends (fresh buffer mode) new.cursor calls answers (fresh-within buffer mode) only (omega (arith, h)) all.run
