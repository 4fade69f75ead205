-- The calls by which a struct's fields are written.
use Rattle.std.proofs.Common.{◌≡◌, true, List, [], ◌∷◌, ◌++◌, Option, None, Some, Result, Ok, Err, refl, sym, ap, ◌∙◌, subst}
use Rattle.std.specs.Prelude.{ℕ}
use Rattle.facet_format.specs.SerializerCall.{SerializerCall, begin_struct, field_key, end_struct, TakesAll}
use Rattle.facet_json_grammar.specs.Text.{Options}
use Rattle.facet_json_grammar.specs.Tree.{Tree, pairs, Pairs, no_pairs, pair}
use Rattle.facet_json_serializer.specs.Serializer.{Opened, in_struct, in_list, Writing, Addition, Misfit, WriteRefusal, out_of_memory, key_added, addition, appended, Takes, Appends, appends, refuses, runs_out, stays_out}
use Rattle.facet_json_serializer.specs.TreeCalls.{and_then, after_calls, tree_calls, member_calls, with_tree}
use Rattle.facet_json_serializer.proofs.TreesByCalls.{tree_by_calls}
use Rattle.facet_json_tree.specs.Write.{HasWritten}
use Rattle.facet_json_tree.proofs.CallsLeft.{AreLeft, call-made, first-made}
use Rattle.facet_json.specs.Written.{HasWrittenMembers, is_in_struct, IsWithinStruct}

-- ---- calls that are taken

-- A first call that fits is taken, and the others after it.
first-taken : (w v : Writing) (call : SerializerCall) (calls : List SerializerCall) (r : Result Addition Misfit) →
    ((u : Writing) → after_calls u calls ≡ Ok v → TakesAll Takes (Some u) calls (Some v)) → addition w.options w.stack call ≡ r →
    and_then r (λ a. after_calls (appended w a) calls) ≡ Ok v → TakesAll Takes (Some w) (call ∷ calls) (Some v)
unfolding TakesAll
first-taken w v call calls (Ok a) others can e = (Some (appended w a), appends w call a can, others (appended w a) e)
first-taken w v call calls (Err why) others cannot e = absurd (cc)

-- Calls that fit are taken, with ample memory.
fits-taken : (w v : Writing) (calls : List SerializerCall) → after_calls w calls ≡ Ok v → TakesAll Takes (Some w) calls (Some v)
unfolding after_calls TakesAll
fits-taken w v [] e = cc
fits-taken w v (call ∷ calls) e = first-taken w v call calls (addition w.options w.stack call) (λ u h. fits-taken u v calls h) refl e

-- So are the calls of a tree that was written.
tree-taken : (old new : Option Writing) (t : Tree) → HasWritten old t new → TakesAll Takes old (tree_calls t) new
tree-taken old new t wrote =
    subst (λ o. TakesAll Takes o (tree_calls t) new) (sym wrote.1)
    (subst (λ n. TakesAll Takes (Some wrote.0) (tree_calls t) n) (sym wrote.2)
    (fits-taken wrote.0 (with_tree wrote.0 t) (tree_calls t) (tree_by_calls wrote.0 t)))

-- Calls after others.
taken-then : (start mid end : Option Writing) (calls more : List SerializerCall) → TakesAll Takes start calls mid → TakesAll Takes mid more end →
    TakesAll Takes start (calls ++ more) end
unfolding TakesAll
taken-then start mid end [] more h g = subst (λ s. TakesAll Takes s more end) h g
taken-then start mid end (call ∷ calls) more h g = (h.0, h.1, taken-then h.0 mid end calls more h.2 g)

-- Of a tree's calls those that are taken are left no more.
pub taken-made : (old now new : Option Writing) (t : Tree) (calls rest : List SerializerCall) → AreLeft old t (calls ++ rest) now → TakesAll Takes now calls new →
    AreLeft old t rest new
unfolding TakesAll
taken-made old now new t [] rest left taken = subst (λ s. AreLeft old t rest s) (sym taken) left
taken-made old now new t (call ∷ calls) rest left taken =
    taken-made old taken.0 new t calls rest (call-made old now taken.0 t call (calls ++ rest) left taken.1) taken.2

-- ---- members

pub none-written : (now : Option Writing) → HasWrittenMembers now no_pairs now
unfolding TakesAll member_calls
none-written now = refl

-- A member before others.
pub member-written : (old keyed mid new : Option Writing) (name : List ℕ) (t : Tree) (others : Pairs) → Appends old (field_key name) (Ok tt) keyed →
    HasWritten keyed t mid → HasWrittenMembers mid others new → HasWrittenMembers old (pair name t others) new
unfolding TakesAll member_calls
member-written old keyed mid new name t others step wrote more =
    (keyed, step, taken-then keyed mid new (tree_calls t) (member_calls others) (tree-taken keyed mid t wrote) more)

-- Once an object is begun and its members are written, its end is left.
pub end-left : (old begun new : Option Writing) (members : Pairs) → Appends old begin_struct (Ok tt) begun → HasWrittenMembers begun members new →
    AreLeft old (pairs members) (end_struct ∷ []) new
unfolding tree_calls
end-left old begun new members step wrote =
    taken-made old begun new (pairs members) (member_calls members) (end_struct ∷ [])
    (first-made old begun (pairs members) begin_struct (member_calls members ++ end_struct ∷ []) refl step) wrote

-- ---- within an object

key-fits : (o : Options) (name : List ℕ) (stack : List Opened) (why : Misfit) → is_in_struct stack ≡ true → key_added o name stack ≡ Err why → ⊥
key-fits o name [] why within e = cc
key-fits o name (in_struct first ∷ around) why within e = cc
key-fits o name (in_list first ∷ around) why within e = cc

key-lacks : (old new : Option Writing) (name : List ℕ) (call : SerializerCall) (answer : Result (Unit {0}) WriteRefusal) (why : WriteRefusal) → Appends old call answer new →
    call ≡ field_key name → answer ≡ Err why → IsWithinStruct old → (why ≡ out_of_memory) × (new ≡ None)
key-lacks old new name call answer why (appends w _ a can) is e within = absurd (cc)
key-lacks old new name call answer why (refuses w _ misfit cannot) is e within =
    absurd (key-fits w.options name w.stack misfit within (ap (addition w.options w.stack) (sym is) ∙ cannot))
key-lacks old new name call answer why (runs_out w _ a can) is e within = (cc, refl)
key-lacks old new name call answer why (stays_out _) is e within = (cc, refl)

-- Within an object a key is refused for lack of memory alone.
pub key-refused : (old new : Option Writing) (name : List ℕ) (why : WriteRefusal) → IsWithinStruct old → Appends old (field_key name) (Err why) new →
    (why ≡ out_of_memory) × (new ≡ None)
key-refused old new name why within step = key-lacks old new name (field_key name) (Err why) why step refl refl within
