-- A serializer's answer, by that of the text that it holds.
use Rattle.std.proofs.Common.{◌≡◌, ℕ, Bool, true, false, true≢false, cond, List, Option, Some, None, Result, Ok, Err, IfOk, refl, sym, subst, inl, inr}
use Rattle.facet_format.specs.SerializerCall.{SerializerCall, byte_sequence, byte_array, IsServed, IsServedOrLeft}
use Rattle.facet_json_serializer.specs.declared.error.JsonSerializeError.{JsonSerializeError}
use Rattle.facet_json_serializer.specs.declared.error.JsonSerializeError.TheVariants.{OutOfMemory}
use Rattle.facet_json_serializer.specs.Views.{write_refusal_of, call_answer_of, bytes_answer_of}
use Rattle.facet_json_serializer.specs.Serializer.{Writing, Addition, Misfit, WriteRefusal, misfits, out_of_memory, addition, Appends, appends, refuses, runs_out, stays_out, Takes, IsSpent}
use Rattle.facet_json_serializer.specs.Inner.Writes.{Adds, Writes, settled}

-- what a call appends to the text that is held, it appends
settles : (w n : Writing) (call : SerializerCall) (added : Result Addition Misfit) (answer : Result (Unit {0}) WriteRefusal)
    → addition w.options w.stack call ≡ added → Adds w added answer n → Appends (Some w) call answer (settled (Some n) answer)
settles w n call (Ok a) (Ok done) can h = rw h (appends w call a can)
settles w n call (Ok a) (Err (misfits why)) can h = absurd (cc)
settles w n call (Ok a) (Err out_of_memory) can h = runs_out w call a can
settles w n call (Err misfit) answer cannot h = rw (h.0, h.1) (refuses w call misfit cannot)

-- the same by the fields of a serializer that has not failed
settles-unfailed : (failed : Bool) (w n : Writing) (old new : Option Writing) (call : SerializerCall) (answer : Result (Unit {0}) WriteRefusal)
    → failed ≡ false → cond failed None (Some w) ≡ old → Writes w call answer n → new ≡ settled (cond failed None (Some n)) answer
    → Appends old call answer new
settles-unfailed failed w n old new call answer well was h is =
    rw (is, sym was, well) (settles w n call _ answer refl h)

-- once an allocation failed, each call is
stays_failed : (failed : Bool) (w : Writing) (old : Option Writing) (call : SerializerCall) → failed ≡ true → cond failed None (Some w) ≡ old
    → Appends old call (Err out_of_memory) old
stays_failed failed w old call ill was = rw (sym was, ill) (stays_out call)

-- bytes of a fixed number are written as others are
pub bytes-of_fixed_number : (old new : Option Writing) (bytes : List ℕ) (answer : Result (Unit {0}) WriteRefusal)
    → Appends old (byte_sequence bytes) answer new → Appends old (byte_array bytes) answer new
bytes-of_fixed_number old new bytes answer (appends w _ a can) = appends w (byte_array bytes) a can
bytes-of_fixed_number old new bytes answer (refuses w _ why cannot) = refuses w (byte_array bytes) why cannot
bytes-of_fixed_number old new bytes answer (runs_out w _ a can) = runs_out w (byte_array bytes) a can
bytes-of_fixed_number old new bytes answer (stays_out _) = stays_out (byte_array bytes)

-- a text that is not spent
abbrev IsThere : Option Writing → Type 0
IsThere None = ⊥
IsThere (Some w) = Unit {0}

-- whoever knows only what a serializer is knows this of an answer
serves-answer : (old new : Option Writing) (call : SerializerCall) (answer : Result (Unit {0}) WriteRefusal) → Appends old call answer new
    → IsServed Takes IsSpent old call answer new
serves-answer old new call answer (appends w _ a can) = (appends w call a can, λ gone. absurd (subst IsThere gone tt))
serves-answer old new call answer (refuses w _ why cannot) = (inl refl, λ gone. refl)
serves-answer old new call answer (runs_out w _ a can) = (inr refl, λ gone. refl)
serves-answer old new call answer (stays_out _) = (inr refl, λ gone. refl)

-- so of what a call returns
serves : (old new : Option Writing) (call : SerializerCall) (result : Result (Unit {0}) JsonSerializeError) → Appends old call (call_answer_of result) new
    → IsServed Takes IsSpent old call result new
serves old new call (Ok done) h = serves-answer old new call (Ok tt) h
serves old new call (Err e) h = serves-answer old new call (Err (write_refusal_of e)) h

-- of a serializer that has not failed
pub settled-served : (failed : Bool) (w n : Writing) (old new : Option Writing) (call : SerializerCall) (result : Result (Unit {0}) JsonSerializeError)
    → failed ≡ false → cond failed None (Some w) ≡ old → Writes w call (call_answer_of result) n
    → new ≡ settled (cond failed None (Some n)) (call_answer_of result)
    → IsServed Takes IsSpent old call result new × Appends old call (call_answer_of result) new
settled-served failed w n old new call result well was h is =
    let step = settles-unfailed failed w n old new call (call_answer_of result) well was h is in (serves old new call result step, step)

-- and of one that has
pub failed-served : (failed : Bool) (w : Writing) (old : Option Writing) (call : SerializerCall) → failed ≡ true → cond failed None (Some w) ≡ old
    → IsServed {A = Unit {0}} Takes IsSpent old call (Err OutOfMemory) old × Appends old call (Err out_of_memory) old
failed-served failed w old call ill was =
    let refused = stays_failed failed w old call ill was in (serves old old call (Err OutOfMemory) refused, refused)

-- and of bytes, which are never left to the caller
pub serves-bytes : (old new : Option Writing) (call : SerializerCall) (result : Result Bool JsonSerializeError) → Appends old call (bytes_answer_of result) new
    → IfOk result (λ done. done ≡ true) → IsServedOrLeft Takes IsSpent old call result new
serves-bytes old new call (Ok true) h written = serves-answer old new call (Ok tt) h
serves-bytes old new call (Ok false) h written = absurd (true≢false (sym written))
serves-bytes old new call (Err e) h written = serves-answer old new call (Err (write_refusal_of e)) h
