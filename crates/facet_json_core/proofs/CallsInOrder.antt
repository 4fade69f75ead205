-- Lists of calls: the calls made so far, and one more.
use Rattle.std.proofs.Common.{◌≡◌, ℕ, zero, suc, ◌+◌, ◌<◌, ◌≤◌, List, [], ◌∷◌, ◌++◌, map, length, take, get_or, refl, sym, ap, subst, add-one, arith}
use Rattle.std.proofs.lemmas.List.{map-append, take_all}
use Rattle.std.specs.List.{All}
use Rattle.std.proofs.lemmas.List.Elements.{All-nil, All-push, All-same}
use Rattle.facet_json_core.specs.declared.script.Call.{Call}
use Rattle.facet_json_core.specs.declared.script.Answer.{Answer}
use Rattle.facet_format.specs.Cursor as cursor
use Rattle.facet_format.specs.Part.{Source}
use Rattle.facet_format.specs.Cursor.{on_walk, Cursor, Run}
use Rattle.facet_json_grammar.specs.Now.{Now, StandsAt}
use Rattle.facet_json_grammar.specs.Move.{Moves, MovesAll}
use Rattle.facet_json_grammar.specs.Within.{AnswerWithin}
use Rattle.facet_json_core.specs.ScriptViews.{call_of, answer_of}
use Rattle.facet_json_grammar.proofs.MoveIsStep.{moves-run}
use Rattle.facet_json_grammar.proofs.MoveLaws.{moves-one_more}

take-next : (calls : List Call) (i : ℕ) (d : Call) → i < length calls → take (suc i) calls ≡ take i calls ++ get_or calls i d ∷ []
take-next [] i d h = absurd (omega (arith, h))
take-next (x ∷ calls) zero d h = refl
take-next (x ∷ calls) (suc i) d h = ap (λ cs. x ∷ cs) (take-next calls i d (omega (arith, h)))

-- One more call was made, and answered.
pub made-one_more : (old mid new : Now) (calls : List Call) (i : ℕ) (d : Call) (answers more : List Answer) (a : Answer) →
    i < length calls → more ≡ answers ++ a ∷ [] →
    MovesAll old (map call_of (take i calls)) (map answer_of answers) mid →
    Moves mid (call_of (get_or calls i d)) (answer_of a) new →
    MovesAll old (map call_of (take (i + 1) calls)) (map answer_of more) new
made-one_more old mid new calls i d answers more a h e all move =
    let next = take-next calls i d h in
    rw (add-one, next, e, map-append, map-append) (moves-one_more all move)

-- All calls were made.
pub made-all : (old new : Now) (calls : List Call) (i : ℕ) (answers : List Answer) → length calls ≤ i →
    MovesAll old (map call_of (take i calls)) (map answer_of answers) new →
    MovesAll old (map call_of calls) (map answer_of answers) new
made-all old new calls i answers h all =
    subst (λ cs. MovesAll old (map call_of cs) (map answer_of answers) new) (take_all i calls h) all

-- On a document that is a run of the cursor.
pub made-run : (old new : Now) (calls : List Call) (answers : List Answer) →
    MovesAll old (map call_of calls) (map answer_of answers) new →
    (w : Source) (c : Cursor ℕ) → StandsAt old w c →
    (d : Cursor ℕ) × Run (on_walk w) c (map call_of calls) (map answer_of answers) d × StandsAt new w d
made-run old new calls answers all w c stands = moves-run old new w c stands all

-- Of no answers all lie within.
pub made-none : (buffer : List ℕ) (answers : List Answer) → answers ≡ [] → All (AnswerWithin buffer) (map answer_of answers)
made-none buffer answers e = rw e (All-nil (AnswerWithin buffer))

-- With one more that lies within, all answers do.
pub made-within : (mid new : Now) (call : cursor.Call) (answers more : List Answer) (a : Answer) → more ≡ answers ++ a ∷ [] →
    All (AnswerWithin mid.buffer) (map answer_of answers) → Moves mid call (answer_of a) new →
    AnswerWithin new.buffer (answer_of a) → All (AnswerWithin new.buffer) (map answer_of more)
made-within mid new call answers more a e all move last =
    let same = move.input.buffer in
    let before = subst (λ b. All (AnswerWithin b) (map answer_of answers)) (sym same) all in
    let both : map answer_of more ≡ map answer_of answers ++ answer_of a ∷ [] = rw (e, map-append) refl in
    All-same (AnswerWithin new.buffer) _ _ both (All-push (AnswerWithin new.buffer) (map answer_of answers) (answer_of a) before last)
