-- What a call that is taken leaves of a value that is begun.
use Rattle.std.proofs.Common.{◌≡◌, ℕ, Bool, true, false, List, [], ◌∷◌, ◌++◌, Option, Some, None, Result, Ok, refl, sym, ap, ◌∙◌, subst, inl, inr, ◌<◌, length, arith, option_to_list, unwrap_or, IsSome}
use Rattle.std.proofs.lemmas.Bool.{true≢false}
use Rattle.std.proofs.lemmas.Option.{same_Some}
use mathlib.Core.Logic.{∥∥₁_map}
use Rattle.facet_format.specs.SerializerCall.{SerializerCall, begin_struct, field_key, end_struct, begin_seq, end_seq, scalar, raw_scalar, TakesAll, IsServed}
use Rattle.facet_json_grammar.specs.Text.{Options, text}
use Rattle.facet_json_grammar.specs.Tree.{Tree, list, pairs, Trees, no_trees, tree, Pairs, no_pairs, pair}
use Rattle.facet_json_serializer.specs.Serializer.{Writing, WriteRefusal, addition, Takes, Appends, appends, refuses, runs_out, stays_out, IsSpent}
use Rattle.facet_json_serializer.specs.TreeCalls.{tree_calls}
use Rattle.facet_json_serializer.proofs.CallsTaken.{tree_taken}
use Rattle.facet_json_serde.specs.declared.due.Due.{Due}
use Rattle.facet_json_serde.specs.declared.due.Due.TheVariants.{Value, Whole, Item, Key, Named}
use Rattle.facet_json_serde.specs.Begun.{IsFormed, Level, in_items, in_members, Begun, within, whole, levels_calls, begun_calls, awaits_value, AreSound, with_item, with_pair, put}
use Rattle.facet_format.specs.Event.{Scalar, borrowed, owned}
use Rattle.facet_format.specs.Event as event
use Rattle.facet_json_grammar.specs.Tree as trees
use Rattle.std.specs.Str.{is_utf8}
use Rattle.facet_json_grammar.specs.AsRead.{WellFormed, ItemsWellFormed, MembersWellFormed, RawParts, RawItems, RawMembers, IsBlankIndent}
use Rattle.facet_json_grammar.specs.ReadBack.{IsReadBack}
use Rattle.facet_json_grammar.proofs.Values.TreeTexts.{written_is_read}
use Rattle.facet_json_serde.specs.OneValue.{IsTree, takes_value, stage_after_value, stage_within, stage_begun, stages_around, around_of, sound_of, BegunValue, IsBegun, IsTextOfTree}
use Rattle.facet_json_serde.proofs.BegunCalls.{value_stands, key_begins, list_begins, struct_begins, list_ends, struct_ends}

-- nothing is written
abbrev pub fresh : Options → Writing
fresh o = record { options = o; stack = []; written = [] }

-- one call more
one_more : (first old new : Option Writing) (calls : List SerializerCall) (call : SerializerCall) → TakesAll Takes first calls old → Takes old call new
    → TakesAll Takes first (calls ++ call ∷ []) new
unfolding TakesAll
one_more first old new [] call taken step = (new, subst (λ s. Takes s call new) taken step, refl)
one_more first old new (other ∷ calls) call taken step = (taken.0, taken.1, one_more taken.0 old new calls call taken.2 step)

-- The value goes on so by a call.
pub record GoesOn (call : SerializerCall) (b : Begun) (stage : Due) (around : List Due) : Type 0 where
  pub then : Begun
  pub calls : begun_calls then ≡ begun_calls b ++ call ∷ []
  pub sound : sound_of then
  pub at_stage : stage ≡ stage_begun then
  pub is_around : around ≡ around_of then

-- How every value goes on that is begun so.
abbrev pub GoesOnFrom : SerializerCall → Due → List Due → Due → List Due → Type 0
GoesOnFrom call stage around after outer = (b : Begun) → sound_of b → stage ≡ stage_begun b → around ≡ around_of b → GoesOn call b after outer

has_more : (o : Options) (old new : Option Writing) (call : SerializerCall) (stage after : Due) (around outer : List Due) → Takes old call new
    → GoesOnFrom call stage around after outer → BegunValue o old stage around → BegunValue o new after outer
has_more o old new call stage after around outer step goes has =
    let next = goes has.begun has.sound has.at_stage has.is_around in
    record {
      begun = next.then;
      taken = subst (λ calls. TakesAll Takes (Some (fresh o)) calls new) (sym next.calls) (one_more (Some (fresh o)) old new (begun_calls has.begun) call has.taken step);
      sound = next.sound;
      at_stage = next.at_stage;
      is_around = next.is_around;
    }

-- A call that is served goes on with the value as one that appends the same.
pub served-goes_on_as : {E : Type 0} (o : Options) (old new : Option Writing) (asked call : SerializerCall) (stage after : Due) (around outer : List Due)
    (result : Result (Unit {0}) E) (x : Unit {0}) → result ≡ Ok x → IsServed Takes IsSpent old asked result new → (Takes old asked new → Takes old call new)
    → GoesOnFrom call stage around after outer → IsBegun o old stage around → IsBegun o new after outer
served-goes_on_as {E} o old new asked call stage after around outer result x ok served same goes begun =
    let it : IsServed {E = E} Takes IsSpent old asked (Ok x) new = subst (λ r. IsServed Takes IsSpent old asked r new) ok served in
    ∥∥₁_map begun (λ cases. elim cases [
      | inl spent ↦ absurd (true≢false (sym (it.1 spent)))
      | inr has ↦ inr (has_more o old new call stage after around outer (same it.0) goes has)
    ])

-- a call that is served goes on with the value
pub served-goes_on : {E : Type 0} (o : Options) (old new : Option Writing) (call : SerializerCall) (stage after : Due) (around outer : List Due) (result : Result (Unit {0}) E)
    (x : Unit {0}) → result ≡ Ok x → IsServed Takes IsSpent old call result new → GoesOnFrom call stage around after outer → IsBegun o old stage around
    → IsBegun o new after outer
served-goes_on o old new call stage after around outer result x ok served goes begun =
    served-goes_on_as o old new call call stage after around outer result x ok served (λ taken. taken) goes begun

-- a call that appends the same
same-appended : (old new : Option Writing) (asked call : SerializerCall) (answer : Result (Unit {0}) WriteRefusal)
    → ((w : Writing) → addition w.options w.stack asked ≡ addition w.options w.stack call) → Appends old asked answer new → Appends old call answer new
same-appended old new asked call answer same (appends w _ a can) = appends w call a (sym (same w) ∙ can)
same-appended old new asked call answer same (refuses w _ why cannot) = refuses w call why (sym (same w) ∙ cannot)
same-appended old new asked call answer same (runs_out w _ a can) = runs_out w call a (sym (same w) ∙ can)
same-appended old new asked call answer same (stays_out _) = stays_out call

-- A number's text is appended as the number is.
pub decimal-taken : (old new : Option Writing) (t : List ℕ) → Takes old (raw_scalar t) new → Takes old (scalar (event.decimal (borrowed t))) new
unfolding text
decimal-taken old new t taken = same-appended old new (raw_scalar t) (scalar (event.decimal (borrowed t))) (Ok tt) (λ w. refl) taken

-- ---- trees of Rust's

item-formed : (items : Trees) (t : Tree) → IsFormed (list items) → IsFormed t → IsFormed (list (with_item items t))
unfolding WellFormed ItemsWellFormed RawParts RawItems
item-formed no_trees t before formed = ((formed.0, tt), (formed.1, tt))
item-formed (tree first others) t before formed =
    let after = item-formed others t (before.0.1, before.1.1) formed in
    ((before.0.0, after.0), (before.1.0, after.1))

member-formed : (members : Pairs) (key : List ℕ) (t : Tree) → is_utf8 key ≡ true → IsFormed (pairs members) → IsFormed t
    → IsFormed (pairs (with_pair members key t))
unfolding WellFormed MembersWellFormed RawParts RawMembers
member-formed no_pairs key t utf8 before formed = ((utf8, formed.0, tt), (formed.1, tt))
member-formed (pair name value others) key t utf8 before formed =
    let after = member-formed others key t utf8 (before.0.2, before.1.1) formed in
    ((before.0.0, before.0.1, after.0), (before.1.0, after.1))

no_items-formed : IsFormed (list no_trees)
unfolding WellFormed ItemsWellFormed RawParts RawItems
no_items-formed = (tt, tt)

no_members-formed : IsFormed (pairs no_pairs)
unfolding WellFormed MembersWellFormed RawParts RawMembers
no_members-formed = (tt, tt)

-- ---- values

awaits-takes : (levels : List Level) → awaits_value levels ≡ takes_value (stage_within levels)
awaits-takes [] = refl
awaits-takes (in_items items ∷ around) = refl
awaits-takes (in_members members None ∷ around) = refl
awaits-takes (in_members members (Some key) ∷ around) = refl

put-goes_on : (t : Tree) (call : SerializerCall) (b : Begun) (levels : List Level) → IsFormed t → awaits_value levels ≡ true → AreSound levels
    → begun_calls (put t levels) ≡ begun_calls b ++ call ∷ [] → GoesOn call b (stage_after_value (stage_within levels)) (stages_around levels)
put-goes_on t call b [] formed awaits sound calls = record { then = whole t; calls = calls; sound = formed; at_stage = refl; is_around = refl }
put-goes_on t call b (in_items items ∷ around) formed awaits sound calls = record {
  then = within (in_items (with_item items t) ∷ around);
  calls = calls;
  sound = (sound.0, item-formed items t sound.1 formed, sound.2);
  at_stage = refl;
  is_around = refl;
}
put-goes_on t call b (in_members members None ∷ around) formed awaits sound calls = absurd (true≢false (sym awaits))
put-goes_on t call b (in_members members (Some key) ∷ around) formed awaits sound calls = record {
  then = within (in_members (with_pair members key t) None ∷ around);
  calls = calls;
  sound = (sound.0, member-formed members key t sound.1.0 sound.1.1 formed, sound.2);
  at_stage = refl;
  is_around = refl;
}

value-at : (t : Tree) (call : SerializerCall) (b : Begun) → IsFormed t → tree_calls t ≡ call ∷ [] → sound_of b → takes_value (stage_begun b) ≡ true
    → GoesOn call b (stage_after_value (stage_begun b)) (around_of b)
value-at t call (whole u) formed one sound may = absurd (true≢false (sym may))
value-at t call (within levels) formed one sound may =
    let awaits = awaits-takes levels ∙ may in
    put-goes_on t call (within levels) levels formed awaits sound (value_stands t levels awaits ∙ ap (λ calls. levels_calls levels ++ calls) one)

pub value-goes_on : (t : Tree) (call : SerializerCall) (stage : Due) (around : List Due) → IsFormed t → tree_calls t ≡ call ∷ [] → takes_value stage ≡ true
    → GoesOnFrom call stage around (stage_after_value stage) around
value-goes_on t call stage around formed one may b sound at_stage is_around =
    rw (at_stage, is_around) (value-at t call b formed one sound (ap takes_value (sym at_stage) ∙ may))

-- a tree is written by the scalar alone
pub scalar-tree : (s : Scalar) → IsTree s → (t : Tree) × (tree_calls t ≡ scalar s ∷ []) × IsFormed t
unfolding tree_calls WellFormed RawParts
scalar-tree event.null is = (trees.null, refl, (tt, tt))
scalar-tree event.unit is = (trees.unit, refl, (tt, tt))
scalar-tree (event.bool b) is = (trees.bool b, refl, (tt, tt))
scalar-tree (event.char c) is = (trees.char c, refl, (is, tt))
scalar-tree (event.i64 n) is = (trees.i64 n, refl, (is, tt))
scalar-tree (event.u64 n) is = (trees.u64 n, refl, (is, tt))
scalar-tree (event.i128 n) is = (trees.i128 n, refl, (is, tt))
scalar-tree (event.u128 n) is = (trees.u128 n, refl, (is, tt))
scalar-tree (event.decimal (borrowed t)) is = (trees.decimal t, refl, (is, tt))
scalar-tree (event.decimal (owned t)) is = absurd is
scalar-tree (event.text (borrowed t)) is = (trees.text t, refl, (is, tt))
scalar-tree (event.text (owned t)) is = absurd is
scalar-tree (event.bytes b) is = (trees.bytes b, refl, (is, tt))

-- ---- keys

abbrev is_key : Due → Bool
is_key Value = false
is_key Whole = false
is_key Item = false
is_key Key = true
is_key Named = false

key-at : (key : List ℕ) (b : Begun) → is_utf8 key ≡ true → sound_of b → is_key (stage_begun b) ≡ true → GoesOn (field_key key) b Named (around_of b)
key-at key (whole t) utf8 sound is = absurd (true≢false (sym is))
key-at key (within []) utf8 sound is = absurd (true≢false (sym is))
key-at key (within (in_items items ∷ around)) utf8 sound is = absurd (true≢false (sym is))
key-at key (within (in_members members None ∷ around)) utf8 sound is =
    record { then = within (in_members members (Some key) ∷ around); calls = key_begins members key around; sound = (sound.0, (utf8, sound.1), sound.2); at_stage = refl; is_around = refl }
key-at key (within (in_members members (Some other) ∷ around)) utf8 sound is = absurd (true≢false (sym is))

pub key-goes_on : (key : List ℕ) (stage : Due) (around : List Due) → is_utf8 key ≡ true → stage ≡ Key → GoesOnFrom (field_key key) stage around Named around
key-goes_on key stage around utf8 is b sound at_stage is_around = rw (is_around) (key-at key b utf8 sound (ap is_key (sym at_stage ∙ is)))

-- ---- containers that begin

list-at : (b : Begun) → sound_of b → takes_value (stage_begun b) ≡ true → GoesOn begin_seq b Item (around_of b ++ stage_begun b ∷ [])
list-at (whole t) sound may = absurd (true≢false (sym may))
list-at (within levels) sound may =
    record { then = within (in_items no_trees ∷ levels); calls = list_begins levels; sound = (awaits-takes levels ∙ may, no_items-formed, sound); at_stage = refl; is_around = refl }

pub list-goes_on : (stage : Due) (around : List Due) → takes_value stage ≡ true → GoesOnFrom begin_seq stage around Item (around ++ stage ∷ [])
list-goes_on stage around may b sound at_stage is_around = rw (at_stage, is_around) (list-at b sound (ap takes_value (sym at_stage) ∙ may))

struct-at : (b : Begun) → sound_of b → takes_value (stage_begun b) ≡ true → GoesOn begin_struct b Key (around_of b ++ stage_begun b ∷ [])
struct-at (whole t) sound may = absurd (true≢false (sym may))
struct-at (within levels) sound may =
    record { then = within (in_members no_pairs None ∷ levels); calls = struct_begins levels; sound = (awaits-takes levels ∙ may, no_members-formed, sound); at_stage = refl; is_around = refl }

pub struct-goes_on : (stage : Due) (around : List Due) → takes_value stage ≡ true → GoesOnFrom begin_struct stage around Key (around ++ stage ∷ [])
struct-goes_on stage around may b sound at_stage is_around = rw (at_stage, is_around) (struct-at b sound (ap takes_value (sym at_stage) ∙ may))

-- ---- containers that end

abbrev is_item : Due → Bool
is_item Value = false
is_item Whole = false
is_item Item = true
is_item Key = false
is_item Named = false

-- the stages around a container end with the innermost one, which alone is taken off
abbrev is_nil : List Due → Bool
is_nil [] = true
is_nil (s ∷ others) = false

abbrev first_or : Due → List Due → Due
first_or s [] = s
first_or s (t ∷ others) = t

abbrev others_of : List Due → List Due
others_of [] = []
others_of (s ∷ others) = others

not-nil : (before : List Due) (s : Due) → is_nil (before ++ s ∷ []) ≡ false
not-nil [] s = refl
not-nil (t ∷ others) s = refl

same-last : (before rest : List Due) (s t : Due) → before ++ s ∷ [] ≡ rest ++ t ∷ [] → (before ≡ rest) × (s ≡ t)
same-last [] [] s t same = (refl, ap (first_or s) same)
same-last [] (u ∷ rest) s t same = absurd (true≢false (ap (λ l. is_nil (others_of l)) same ∙ not-nil rest t))
same-last (r ∷ before) [] s t same = absurd (true≢false (sym (ap (λ l. is_nil (others_of l)) same) ∙ not-nil before s))
same-last (r ∷ before) (u ∷ rest) s t same =
    let inner = same-last before rest s t (ap others_of same) in
    let firsts = ap (first_or r) same in
    (ap (λ l. r ∷ l) inner.0 ∙ ap (λ f. f ∷ rest) firsts, inner.1)

-- the outer stage is popped, and the others stay
pops : (before rest : List Due) (s : Due) (popped : Option Due) → before ++ s ∷ [] ≡ rest ++ option_to_list popped → IsSome popped
    → (before ≡ rest) × (s ≡ unwrap_or popped Value)
pops before rest s None same some = absurd (true≢false (sym some))
pops before rest s (Some t) same some = same-last before rest s t same

longer : (before : List Due) (s : Due) → 0 < length (before ++ s ∷ [])
longer [] s = omega arith
longer (t ∷ others) s = omega arith

ended-at : (t : Tree) (call : SerializerCall) (b : Begun) (outer : List Level) (rest : List Due) (popped : Option Due) → IsFormed t → awaits_value outer ≡ true → AreSound outer
    → begun_calls (put t outer) ≡ begun_calls b ++ call ∷ [] → stages_around outer ++ stage_within outer ∷ [] ≡ rest ++ option_to_list popped
    → (0 < length (stages_around outer ++ stage_within outer ∷ []) → IsSome popped) → GoesOn call b (stage_after_value (unwrap_or popped Value)) rest
ended-at t call b outer rest popped formed awaits sound calls same some =
    let off = pops (stages_around outer) rest (stage_within outer) popped same (some (longer (stages_around outer) (stage_within outer))) in
    rw (sym off.0, sym off.1) (put-goes_on t call b outer formed awaits sound calls)

end-list-at : (b : Begun) (rest : List Due) (popped : Option Due) → sound_of b → is_item (stage_begun b) ≡ true → around_of b ≡ rest ++ option_to_list popped
    → (0 < length (around_of b) → IsSome popped) → GoesOn end_seq b (stage_after_value (unwrap_or popped Value)) rest
end-list-at (whole t) rest popped sound is same some = absurd (true≢false (sym is))
end-list-at (within []) rest popped sound is same some = absurd (true≢false (sym is))
end-list-at (within (in_items items ∷ outer)) rest popped sound is same some =
    ended-at (list items) end_seq (within (in_items items ∷ outer)) outer rest popped sound.1 sound.0 sound.2 (list_ends items outer sound.0) same some
end-list-at (within (in_members members None ∷ outer)) rest popped sound is same some = absurd (true≢false (sym is))
end-list-at (within (in_members members (Some key) ∷ outer)) rest popped sound is same some = absurd (true≢false (sym is))

pub list_end-goes_on : (stage : Due) (around rest : List Due) (popped : Option Due) → stage ≡ Item → around ≡ rest ++ option_to_list popped
    → (0 < length around → IsSome popped) → GoesOnFrom end_seq stage around (stage_after_value (unwrap_or popped Value)) rest
list_end-goes_on stage around rest popped is same some b sound at_stage is_around =
    end-list-at b rest popped sound (ap is_item (sym at_stage ∙ is)) (sym is_around ∙ same) (subst (λ l. 0 < length l → IsSome popped) is_around some)

end-struct-at : (b : Begun) (rest : List Due) (popped : Option Due) → sound_of b → is_key (stage_begun b) ≡ true → around_of b ≡ rest ++ option_to_list popped
    → (0 < length (around_of b) → IsSome popped) → GoesOn end_struct b (stage_after_value (unwrap_or popped Value)) rest
end-struct-at (whole t) rest popped sound is same some = absurd (true≢false (sym is))
end-struct-at (within []) rest popped sound is same some = absurd (true≢false (sym is))
end-struct-at (within (in_items items ∷ outer)) rest popped sound is same some = absurd (true≢false (sym is))
end-struct-at (within (in_members members None ∷ outer)) rest popped sound is same some =
    ended-at (pairs members) end_struct (within (in_members members None ∷ outer)) outer rest popped sound.1 sound.0 sound.2 (struct_ends members outer sound.0) same some
end-struct-at (within (in_members members (Some key) ∷ outer)) rest popped sound is same some = absurd (true≢false (sym is))

pub struct_end-goes_on : (stage : Due) (around rest : List Due) (popped : Option Due) → stage ≡ Key → around ≡ rest ++ option_to_list popped
    → (0 < length around → IsSome popped) → GoesOnFrom end_struct stage around (stage_after_value (unwrap_or popped Value)) rest
struct_end-goes_on stage around rest popped is same some b sound at_stage is_around =
    end-struct-at b rest popped sound (ap is_key (sym at_stage ∙ is)) (sym is_around ∙ same) (subst (λ l. 0 < length l → IsSome popped) is_around some)

-- ---- the text of a value that is whole

abbrev is_whole : Due → Bool
is_whole Value = false
is_whole Whole = true
is_whole Item = false
is_whole Key = false
is_whole Named = false

whole-text : (o : Options) (b : Begun) (now : Option Writing) (w : Writing) (bytes : List ℕ) → TakesAll Takes (Some (fresh o)) (begun_calls b) now
    → sound_of b → is_whole (stage_begun b) ≡ true → now ≡ Some w → bytes ≡ w.written
    → (t : Tree) × (bytes ≡ text o 0 t) × (IsBlankIndent o → IsReadBack o t bytes)
whole-text o (whole t) now w bytes taken formed is left all =
    let same : bytes ≡ text o 0 t = all ∙ ap (λ n. n.written) (same_Some _ _ (sym left ∙ tree_taken (fresh o) t now taken)) in
    (t, same, λ blank. subst (λ b. IsReadBack o t b) (sym same) (written_is_read o t blank formed.0 formed.1))
whole-text o (within []) now w bytes taken sound is left all = absurd (true≢false (sym is))
whole-text o (within (in_items items ∷ around)) now w bytes taken sound is left all = absurd (true≢false (sym is))
whole-text o (within (in_members members None ∷ around)) now w bytes taken sound is left all = absurd (true≢false (sym is))
whole-text o (within (in_members members (Some key) ∷ around)) now w bytes taken sound is left all = absurd (true≢false (sym is))

abbrev is_there : Option Writing → Bool
is_there None = false
is_there (Some w) = true

pub begun-text : (o : Options) (now : Option Writing) (stage : Due) (around : List Due) (w : Writing) (bytes : List ℕ) → stage ≡ Whole → now ≡ Some w
    → bytes ≡ w.written → IsBegun o now stage around → IsTextOfTree o bytes
begun-text o now stage around w bytes is left all begun =
    ∥∥₁_map begun (λ cases. elim cases [
      | inl spent ↦ absurd (true≢false (ap is_there (sym left ∙ spent)))
      | inr has ↦ whole-text o has.begun now w bytes has.taken has.sound (ap is_whole (sym has.at_stage ∙ is)) left all
    ])

-- nothing is begun
pub nothing-begun : (o : Options) (now : Option Writing) → now ≡ Some (fresh o) → IsBegun o now Value []
unfolding TakesAll
nothing-begun o now is = ∣ inr (record { begun = within []; taken = is; sound = tt; at_stage = refl; is_around = refl }) ∣₁
