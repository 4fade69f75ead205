-- Calls that lead to a parser, and one more call.
use Rattle.std.proofs.Common.{[], ◌∷◌, ◌++◌, refl, ◌∙◌, subst}
use Rattle.facet_format.specs.Cursor.{Call, Answer, Step, no_calls, one_call}
use Rattle.facet_json_grammar.specs.Now.{Now, on_input, LeadsTo}
use Rattle.facet_json_grammar.specs.Move.{Moves, MovesAll}
use Rattle.facet_json_grammar.proofs.StepLaws.{run-append}

-- After calls that lead to a parser, and one more, calls lead to what that leaves.
pub one-leads : (old new : Now) {call : Call} {answer : Answer} → Moves old call answer new → (first : Now) → LeadsTo first old → LeadsTo first new
one-leads old new {call = call} {answer = answer} move first led =
    let buffer = subst (λ b. Step (on_input b old.language) old.cursor call answer new.cursor) led.input.buffer move.step in
    let step = subst (λ l. Step (on_input first.buffer l) old.cursor call answer new.cursor) led.input.language buffer in
    record {
      input = record { buffer = move.input.buffer ∙ led.input.buffer; language = move.input.language ∙ led.input.language };
      calls = led.calls ++ call ∷ [];
      answers = led.answers ++ answer ∷ [];
      run = run-append (on_input first.buffer first.language) led.run (one_call old.cursor new.cursor new.cursor call answer [] [] step (no_calls new.cursor));
    }

-- No call leads to the parser itself.
pub none-lead : (now : Now) → LeadsTo now now
none-lead now = record { input = record { buffer = refl; language = refl }; calls = []; answers = []; run = no_calls now.cursor }

-- Calls that lead to it are made in order.
pub led-moves : (first now : Now) (led : LeadsTo first now) → MovesAll first led.calls led.answers now
led-moves first now led = record { input = led.input; run = led.run }
