-- Which calls of a tree are still to be made.
use Rattle.std.proofs.Common.{◌≡◌, List, [], ◌∷◌, ◌++◌, Option, Some, None, Result, Ok, Err, refl, sym, ap, ◌∙◌, subst}
use Rattle.std.specs.Result.{OnOk, OnErr, IfErr}
use Rattle.facet_json_grammar.specs.Tree.{Tree}
use Rattle.facet_json_serializer.specs.declared.error.JsonSerializeError.{JsonSerializeError}
use Rattle.facet_format.specs.SerializerCall.{SerializerCall}
use Rattle.facet_json_serializer.specs.Serializer.{Writing, Addition, Misfit, WriteRefusal, out_of_memory, addition, appended, Appends, appends, refuses, runs_out, stays_out}
use Rattle.facet_json_serializer.specs.TreeCalls.{after_calls, and_then, tree_calls, with_tree}
use Rattle.facet_json_serializer.specs.Views.{call_answer_of, write_refusal_of}
use Rattle.facet_json_serializer.proofs.TreesByCalls.{tree_by_calls}
use Rattle.facet_json_tree.specs.Write.{HasWritten}

-- calls that follow the first one, once it is made
after_first : (first : Result Addition Misfit) (w v : Writing) (calls more : List SerializerCall)
    → ((u : Writing) → after_calls u calls ≡ Ok v → after_calls u (calls ++ more) ≡ after_calls v more)
    → and_then first (λ a. after_calls (appended w a) calls) ≡ Ok v
    → and_then first (λ a. after_calls (appended w a) (calls ++ more)) ≡ after_calls v more
after_first (Ok a) w v calls more others e = others (appended w a) e
after_first (Err why) w v calls more others e = absurd (cc)

-- calls one after the other
after_more : (w v : Writing) (calls more : List SerializerCall) → after_calls w calls ≡ Ok v → after_calls w (calls ++ more) ≡ after_calls v more
unfolding after_calls
after_more w v [] more e = let same : w ≡ v = cc in ap (λ u. after_calls u more) same
after_more w v (call ∷ calls) more e =
    after_first (addition w.options w.stack call) w v calls more (λ u left. after_more u v calls more left) e

-- The serializer has not run out of memory, and once these calls are made it is this.
pub record Owes (now : Option Writing) (calls : List SerializerCall) (goal : Writing) : Type 0 where
  pub writing : Writing
  pub is : now ≡ Some writing
  pub left : after_calls writing calls ≡ Ok goal

-- Of the calls of a tree, which were begun at the old state, these are still to be made.
abbrev pub AreLeft : Option Writing → Tree → List SerializerCall → Option Writing → Type 0
AreLeft old t calls now = (w : Writing) × (old ≡ Some w) × Owes now calls (with_tree w t)

-- a call that is made is left no more
made : (w : Writing) (call : SerializerCall) (rest : List SerializerCall) (goal : Writing) (a : Addition) → addition w.options w.stack call ≡ Ok a
    → after_calls w (call ∷ rest) ≡ Ok goal → after_calls (appended w a) rest ≡ Ok goal
unfolding after_calls
made w call rest goal a can left = ap (λ r. and_then r (λ b. after_calls (appended w b) rest)) (sym can) ∙ left

-- and it can be made
can_be_made : (w : Writing) (call : SerializerCall) (rest : List SerializerCall) (goal : Writing) (why : Misfit) → addition w.options w.stack call ≡ Err why
    → after_calls w (call ∷ rest) ≡ Ok goal → ⊥
unfolding after_calls
can_be_made w call rest goal why cannot left =
    let refused = ap (λ r. and_then r (λ b. after_calls (appended w b) rest)) (sym cannot) ∙ left in cc

-- the states that a call goes between
Owes-made : (old new : Option Writing) (call : SerializerCall) (rest : List SerializerCall) (goal : Writing) (answer : Result (Unit {0}) WriteRefusal)
    → Appends old call answer new → answer ≡ Ok tt → Owes old (call ∷ rest) goal → Owes new rest goal
Owes-made old new call rest goal answer (appends w _ a can) e o =
    let same : o.writing ≡ w = let some = o.is in cc in
    let left = subst (λ v. after_calls v (call ∷ rest) ≡ Ok goal) same o.left in
    record { writing = appended w a; is = refl; left = made w call rest goal a can left }
Owes-made old new call rest goal answer (refuses w _ why cannot) e o = absurd (cc)
Owes-made old new call rest goal answer (runs_out w _ a can) e o = absurd (cc)
Owes-made old new call rest goal answer (stays_out _) e o = absurd (cc)

-- The next call of a tree is made.
pub call-made : (old now new : Option Writing) (t : Tree) (call : SerializerCall) (rest : List SerializerCall) → AreLeft old t (call ∷ rest) now
    → Appends now call (Ok tt) new → AreLeft old t rest new
call-made old now new t call rest h step = (h.0, h.1, Owes-made now new call rest (with_tree h.0 t) (Ok tt) step refl h.2)

begun : (old new : Option Writing) (t : Tree) (call : SerializerCall) (rest : List SerializerCall) (answer : Result (Unit {0}) WriteRefusal)
    → Appends old call answer new → answer ≡ Ok tt → tree_calls t ≡ call ∷ rest → AreLeft old t rest new
begun old new t call rest answer (appends w _ a can) is e =
    let left = ap (λ calls. after_calls w calls) (sym e) ∙ tree_by_calls w t in
    (w, refl, record { writing = appended w a; is = refl; left = made w call rest (with_tree w t) a can left })
begun old new t call rest answer (refuses w _ why cannot) is e = absurd (cc)
begun old new t call rest answer (runs_out w _ a can) is e = absurd (cc)
begun old new t call rest answer (stays_out _) is e = absurd (cc)

-- The first one is made.
pub first-made : (old new : Option Writing) (t : Tree) (call : SerializerCall) (rest : List SerializerCall) → tree_calls t ≡ call ∷ rest
    → Appends old call (Ok tt) new → AreLeft old t rest new
first-made old new t call rest e step = begun old new t call rest (Ok tt) step refl e

-- All calls of a tree within it are made.
pub tree-made : (old now new : Option Writing) (t u : Tree) (rest : List SerializerCall) → AreLeft old t (tree_calls u ++ rest) now
    → HasWritten now u new → AreLeft old t rest new
tree-made old now new t u rest h wrote =
    let o = h.2 in
    let same : o.writing ≡ wrote.0 = let a = o.is in let b = wrote.1 in cc in
    let left = subst (λ v. after_calls v (tree_calls u ++ rest) ≡ Ok (with_tree h.0 t)) same o.left in
    let after = after_more wrote.0 (with_tree wrote.0 u) (tree_calls u) rest (tree_by_calls wrote.0 u) in
    (h.0, h.1, record { writing = with_tree wrote.0 u; is = wrote.2; left = sym after ∙ left })

-- the last one
last-made : (old now new : Option Writing) (t : Tree) (call : SerializerCall) → AreLeft old t (call ∷ []) now
    → Appends now call (Ok tt) new → HasWritten old t new
unfolding after_calls
last-made old now new t call h step =
    let o = Owes-made now new call [] (with_tree h.0 t) (Ok tt) step refl h.2 in
    let same : o.writing ≡ with_tree h.0 t = let left = o.left in cc in
    (h.0, h.1, o.is ∙ ap Some same)

refused : (now new : Option Writing) (call : SerializerCall) (rest : List SerializerCall) (goal : Writing) (why : WriteRefusal) (answer : Result (Unit {0}) WriteRefusal)
    → Appends now call answer new → answer ≡ Err why → Owes now (call ∷ rest) goal → why ≡ out_of_memory
refused now new call rest goal why answer (appends w _ a can) e o = absurd (cc)
refused now new call rest goal why answer (refuses w _ misfit cannot) e o =
    let same : o.writing ≡ w = let some = o.is in cc in
    let left = subst (λ v. after_calls v (call ∷ rest) ≡ Ok goal) same o.left in
    absurd (can_be_made w call rest goal misfit cannot left)
refused now new call rest goal why answer (runs_out w _ a can) e o = cc
refused now new call rest goal why answer (stays_out _) e o = cc

-- The next call of a tree is refused for lack of memory alone.
pub left-refused : (old now new : Option Writing) (t : Tree) (call : SerializerCall) (rest : List SerializerCall) (why : WriteRefusal)
    → AreLeft old t (call ∷ rest) now → Appends now call (Err why) new → why ≡ out_of_memory
left-refused old now new t call rest why h step = refused now new call rest (with_tree h.0 t) why (Err why) step refl h.2

-- What the code's answer to the last call of a tree leaves.
pub record Ended (old : Option Writing) (t : Tree) (r : Result (Unit {0}) JsonSerializeError) (new : Option Writing) : Type 0 where
  pub written : OnOk r (HasWritten old t new)
  pub refused : IfErr r (λ e. write_refusal_of e ≡ out_of_memory)
  pub spent : OnErr r (new ≡ None)

last-answered : (old now new : Option Writing) (t : Tree) (call : SerializerCall) (r : Result (Unit {0}) JsonSerializeError)
    → AreLeft old t (call ∷ []) now → Appends now call (call_answer_of r) new → OnOk r (HasWritten old t new)
last-answered old now new t call (Ok nothing) h step = last-made old now new t call h step
last-answered old now new t call (Err e) h step = tt

last-refused : (old now new : Option Writing) (t : Tree) (call : SerializerCall) (r : Result (Unit {0}) JsonSerializeError)
    → AreLeft old t (call ∷ []) now → Appends now call (call_answer_of r) new → IfErr r (λ e. write_refusal_of e ≡ out_of_memory)
last-refused old now new t call (Ok nothing) h step = tt
last-refused old now new t call (Err e) h step = left-refused old now new t call [] (write_refusal_of e) h step

-- A call that is refused for lack of memory leaves a serializer that has none.
call-spent : (old new : Option Writing) (call : SerializerCall) (answer : Result (Unit {0}) WriteRefusal) → Appends old call answer new
    → answer ≡ Err out_of_memory → new ≡ None
call-spent old new call answer (appends w _ a can) e = cc
call-spent old new call answer (refuses w _ why cannot) e = cc
call-spent old new call answer (runs_out w _ a can) e = refl
call-spent old new call answer (stays_out _) e = refl

-- The next call of a tree that is refused leaves the serializer out of memory.
pub left-spent : (old now new : Option Writing) (t : Tree) (call : SerializerCall) (rest : List SerializerCall) (why : WriteRefusal)
    → AreLeft old t (call ∷ rest) now → Appends now call (Err why) new → new ≡ None
left-spent old now new t call rest why h step =
    call-spent now new call (Err why) step (ap Err (left-refused old now new t call rest why h step))

last-spent : (old now new : Option Writing) (t : Tree) (call : SerializerCall) (r : Result (Unit {0}) JsonSerializeError)
    → AreLeft old t (call ∷ []) now → Appends now call (call_answer_of r) new → OnErr r (new ≡ None)
last-spent old now new t call (Ok nothing) h step = tt
last-spent old now new t call (Err e) h step = left-spent old now new t call [] (write_refusal_of e) h step

pub last-ended : (old now new : Option Writing) (t : Tree) (call : SerializerCall) (r : Result (Unit {0}) JsonSerializeError)
    → AreLeft old t (call ∷ []) now → Appends now call (call_answer_of r) new → Ended old t r new
last-ended old now new t call r left step = record {
  written = last-answered old now new t call r left step;
  refused = last-refused old now new t call r left step;
  spent = last-spent old now new t call r left step;
}
