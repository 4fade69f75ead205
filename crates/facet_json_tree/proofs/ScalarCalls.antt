-- Calls that write a value which holds no others, and calls that always fit.
use Rattle.std.proofs.Common.{◌≡◌, ℕ, List, ◌++◌, length, Option, Some, None, Result, Ok, Err, refl, ap}
use Rattle.facet_format.specs.Event.{Scalar}
use Rattle.facet_format.specs.Event as event
use Rattle.facet_json_grammar.specs.Text.{Options, text}
use Rattle.facet_json_grammar.specs.Tree.{Tree, raw}
use Rattle.facet_json_serializer.specs.declared.error.JsonSerializeError.{JsonSerializeError}
use Rattle.facet_format.specs.SerializerCall.{SerializerCall, scalar, raw_scalar}
use Rattle.facet_json_serializer.specs.Serializer.{Opened, Writing, WriteRefusal, out_of_memory, addition, appended, before_value, after_written, scalar_tree, scalar_text, Appends, appends, refuses, runs_out, stays_out}
use Rattle.facet_json_serializer.specs.Views.{call_answer_of}
use Rattle.facet_json_tree.specs.Write.{HasWritten}
use Rattle.facet_json_tree.proofs.CallsLeft.{Ended}

-- The call fits whatever is open, and appends these bytes as a value.
abbrev pub IsValueCall : SerializerCall → (Options → ℕ → List ℕ) → Type 0
IsValueCall call bytes = (o : Options) (stack : List Opened) → addition o stack call
    ≡ Ok (record { added = before_value o stack ++ bytes o (length stack); stack = after_written stack })

-- A call whose bytes are the tree's text writes the tree, or memory runs out.
data Wrote (old : Option Writing) (t : Tree) (new : Option Writing) (answer : Result (Unit {0}) WriteRefusal) : Type 0 where
  wrote : answer ≡ Ok tt → HasWritten old t new → Wrote old t new answer
  lacked : answer ≡ Err out_of_memory → new ≡ None → Wrote old t new answer

value-called : (old new : Option Writing) (call : SerializerCall) (t : Tree) (answer : Result (Unit {0}) WriteRefusal)
    → IsValueCall call (λ o depth. text o depth t) → Appends old call answer new → Wrote old t new answer
value-called old new call t answer fits (appends w _ a can) =
    let same : a ≡ record { added = before_value w.options w.stack ++ text w.options (length w.stack) t; stack = after_written w.stack } =
    let f = fits w.options w.stack in cc in
    wrote refl (w, refl, ap (λ b. Some (appended w b)) same)
value-called old new call t answer fits (refuses w _ why cannot) = let f = fits w.options w.stack in absurd (cc)
value-called old new call t answer fits (runs_out w _ a can) = lacked refl refl
value-called old new call t answer fits (stays_out _) = lacked refl refl

-- the text of a value that holds no others is the same in any number of containers
scalar-depth : (o : Options) (depth : ℕ) (value : Scalar) → scalar_text o value ≡ text o depth (scalar_tree value)
unfolding text
scalar-depth o depth event.null = refl
scalar-depth o depth event.unit = refl
scalar-depth o depth (event.bool b) = refl
scalar-depth o depth (event.char c) = refl
scalar-depth o depth (event.i64 n) = refl
scalar-depth o depth (event.u64 n) = refl
scalar-depth o depth (event.i128 n) = refl
scalar-depth o depth (event.u128 n) = refl
scalar-depth o depth (event.decimal t) = refl
scalar-depth o depth (event.text t) = refl
scalar-depth o depth (event.bytes b) = refl

-- the same for the code's answers
of_answer : (old new : Option Writing) (t : Tree) (r : Result (Unit {0}) JsonSerializeError) → Wrote old t new (call_answer_of r) → Ended old t r new
of_answer old new t (Ok nothing) (wrote is h) = record { written = h; refused = tt; spent = tt }
of_answer old new t (Ok nothing) (lacked is none) = absurd (cc)
of_answer old new t (Err e) (wrote is h) = absurd (cc)
of_answer old new t (Err e) (lacked is none) = record { written = tt; refused = cc; spent = none }

-- A scalar's call writes its tree.
pub scalar-called : (old new : Option Writing) (value : Scalar) (t : Tree) (r : Result (Unit {0}) JsonSerializeError)
    → t ≡ scalar_tree value → Appends old (scalar value) (call_answer_of r) new → Ended old t r new
scalar-called old new value t r is step =
    rw is
    (of_answer old new (scalar_tree value) r
    (value-called old new (scalar value) (scalar_tree value) (call_answer_of r)
    (λ o stack. ap (λ bytes. Ok (record { added = before_value o stack ++ bytes; stack = after_written stack })) (scalar-depth o (length stack) value))
    step))

-- The call of a text that stands as it is writes a tree of this text.
pub raw-called : (old new : Option Writing) (json : List ℕ) (t : Tree) (r : Result (Unit {0}) JsonSerializeError)
    → ((o : Options) (depth : ℕ) → json ≡ text o depth t) → Appends old (raw_scalar json) (call_answer_of r) new → Ended old t r new
raw-called old new json t r is step =
    of_answer old new t r
    (value-called old new (raw_scalar json) t (call_answer_of r)
    (λ o stack. ap (λ bytes. Ok (record { added = before_value o stack ++ bytes; stack = after_written stack })) (is o (length stack)))
    step)

-- It writes the raw tree of it.
pub raw-ended : (old new : Option Writing) (json : List ℕ) (r : Result (Unit {0}) JsonSerializeError) → Appends old (raw_scalar json) (call_answer_of r) new
    → Ended old (raw json) r new
unfolding text
raw-ended old new json r step = raw-called old new json (raw json) r (λ o depth. refl) step
