-- What a parser's refusal of the next event says of what comes.
use Rattle.std.proofs.Common.{◌≡◌, None, refl, sym, ap}
use Rattle.std.specs.Prelude.{Err}
use Rattle.facet_format.specs.Complaint.{Refusal}
use Rattle.facet_format.specs.Cursor.{Cursor, current_span, no_memory_at, next, Answer, event, Step, repeats, passes, passes_without_memory, passes_the_end, passes_nothing}
use Rattle.facet_json_grammar.specs.Future.{Future, gives, finished, stuck}
use Rattle.facet_json_grammar.specs.Reader.{Reader}
use Rattle.facet_json_grammar.specs.Now.{Now, RefusedAt, on_input, future_of}
use Rattle.facet_json_grammar.specs.Move.{Moves}
use Rattle.facet_json_core.specs.Reading.{GivesNone, lacks_memory, is_stuck}

-- Where no document goes on, what comes is that.
stuck-there : (now : Now) (r : Refusal) (future : Future) → future_of now ≡ future → RefusedAt now.buffer future r → GivesNone now r
stuck-there now r (gives p future) e so = absurd so
stuck-there now r finished e so = absurd so
stuck-there now r (stuck place rest) e so = is_stuck place rest e so

refused-step : (old : Now) (d : Cursor Reader) (r : Refusal) (answer : Answer) → old.cursor.refusal ≡ None → answer ≡ event (Err r) →
    Step (on_input old.buffer old.language) old.cursor next answer d → GivesNone old r
refused-step old d r answer free is (repeats s call _ f a) = cc
refused-step old d r answer free is (passes p none up) = cc
refused-step old d r answer free is (passes_without_memory p none up takes off) =
    let same : no_memory_at (current_span (on_input old.buffer old.language) old.cursor.spot) ≡ r = cc in
    lacks_memory (ap (λ (x : Refusal). x.complaint) (sym same))
refused-step old d r answer free is (passes_the_end none up) = cc
refused-step old d r answer free is (passes_nothing q none up so) =
    let same : q ≡ r = cc in
    rw (← same) (stuck-there old q (future_of old) refl so)

-- A refusal is out of memory, or nothing goes on.
pub next-refused : {old new : Now} {answer : Answer} (r : Refusal) → old.cursor.refusal ≡ None → answer ≡ event (Err r) →
    Moves old next answer new → GivesNone old r
next-refused {old = old} {new = new} {answer = answer} r free is move = refused-step old new.cursor r answer free is move.step
