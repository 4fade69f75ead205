-- A value's events, passed one by one: which calls are left, and how many containers are open.
use Rattle.std.proofs.Common.{◌≡◌, ◌-◌, ℕ, suc, List, [], ◌∷◌, ◌++◌, Some, refl, sym, ap, ◌∙◌, append_assoc, subst, arith}
use Rattle.facet_format.specs.Event as event
use Rattle.facet_format.specs.Event.{EventKind, Scalar, null, unit, bool, char, i64, u64, i128, u128, decimal, text, bytes, borrowed, bytes_of, Passed}
use Rattle.facet_json_grammar.specs.Text as texts
use Rattle.facet_json_grammar.specs.Text.{Options}
use Rattle.facet_json_grammar.specs.Tree.{Tree, Trees, Pairs}
use Rattle.facet_json_grammar.specs.Tree as trees
use Rattle.facet_json_grammar.specs.Future.{Future, gives}
use Rattle.facet_format.specs.SerializerCall.{SerializerCall, begin_struct, field_key, end_struct, begin_seq, end_seq, scalar}
use Rattle.facet_json_serializer.specs.Serializer.{Opened, addition}
use Rattle.facet_json_serializer.specs.TreeCalls.{tree_calls, item_calls, member_calls}
use Rattle.facet_json_core.specs.Told.{tree_of_scalar, Tells, a_scalar, a_list, an_object, TellsItems, no_item, one_item, TellsMembers, no_member, one_member}
use Rattle.facet_json_core.specs.Transcode.{serializer_call_of, containers_after}

-- ---- what is left

-- After a value, within so many open containers: these calls pass what is left of them, and the last future comes after.
pub data Closes : ℕ → Future → List SerializerCall → Future → Type 0 where
  nothing : (rest : Future) (calls : List SerializerCall) → calls ≡ [] → Closes 0 rest calls rest
  items : (n : ℕ) (f others rest : Future) (ts : Trees) (calls after : List SerializerCall) → TellsItems f ts others → Closes n others after rest →
      calls ≡ item_calls ts ++ end_seq ∷ after → Closes (suc n) f calls rest
  members : (n : ℕ) (f others rest : Future) (ps : Pairs) (calls after : List SerializerCall) → TellsMembers f ps others → Closes n others after rest →
      calls ≡ member_calls ps ++ end_struct ∷ after → Closes (suc n) f calls rest

-- Before an event of the value: a value begins, or a container goes on.
pub data Before : ℕ → Future → List SerializerCall → Future → Type 0 where
  value : (n : ℕ) (f others rest : Future) (t : Tree) (calls after : List SerializerCall) → Tells f t others → Closes n others after rest →
      calls ≡ tree_calls t ++ after → Before n f calls rest
  within : (n : ℕ) (f rest : Future) (calls : List SerializerCall) → Closes (suc n) f calls rest → Before (suc n) f calls rest

-- After an event of the value: the value has ended, or it goes on within a container.
pub data After : ℕ → Future → List SerializerCall → Future → Type 0 where
  over : (rest : Future) → After 0 rest [] rest
  goes_on : (n : ℕ) (f rest : Future) (calls : List SerializerCall) → Before (suc n) f calls rest → After (suc n) f calls rest

-- Two calls append the same, in any state.
abbrev pub AddAlike : SerializerCall → SerializerCall → Type 0
AddAlike a b = (o : Options) (stack : List Opened) → addition o stack a ≡ addition o stack b

-- An event comes, and its call is the first that is left.
pub record Stepped (n : ℕ) (f : Future) (calls : List SerializerCall) (rest : Future) : Type 0 where
  pub passed : Passed
  pub others : Future
  pub comes : f ≡ gives passed others
  pub first : SerializerCall
  pub left : List SerializerCall
  pub are : calls ≡ first ∷ left
  pub alike : AddAlike first (serializer_call_of passed.event.kind)
  pub after : After (containers_after passed.event.kind n) others left rest

-- ---- scalars

-- A scalar is written as its tree is.
scalar-alike : (v : Scalar) (t : Tree) → tree_of_scalar v ≡ Some t →
    (first : SerializerCall) × (tree_calls t ≡ first ∷ []) × AddAlike first (scalar v)
unfolding tree_calls texts.text
scalar-alike null t e = let same : trees.null ≡ t = cc in rw (← same) (scalar null, refl, λ o stack. refl)
scalar-alike unit t e = let same : trees.null ≡ t = cc in rw (← same) (scalar null, refl, λ o stack. refl)
scalar-alike (bool b) t e = let same : trees.bool b ≡ t = cc in rw (← same) (scalar (bool b), refl, λ o stack. refl)
scalar-alike (char c) t e = cc
scalar-alike (i64 n) t e = let same : trees.i64 n ≡ t = cc in rw (← same) (scalar (i64 n), refl, λ o stack. refl)
scalar-alike (u64 n) t e = let same : trees.u64 n ≡ t = cc in rw (← same) (scalar (u64 n), refl, λ o stack. refl)
scalar-alike (i128 n) t e = cc
scalar-alike (u128 n) t e = cc
scalar-alike (decimal x) t e = let same : trees.decimal (bytes_of x) ≡ t = cc in rw (← same) (scalar (decimal (borrowed (bytes_of x))), refl, λ o stack. refl)
scalar-alike (text x) t e = let same : trees.text (bytes_of x) ≡ t = cc in rw (← same) (scalar (text (borrowed (bytes_of x))), refl, λ o stack. refl)
scalar-alike (bytes b) t e = cc

-- ---- one event

-- After a value its container goes on, or all has ended.
closes-after : (n : ℕ) (f rest : Future) (calls : List SerializerCall) → Closes n f calls rest → After n f calls rest
closes-after _ f _ calls (nothing _ _ none) = subst (λ cs. After 0 f cs f) (sym none) (over f)
closes-after _ f rest calls (items n _ others _ ts _ after told left are) =
    goes_on n f rest calls (within n f rest calls (items n f others rest ts calls after told left are))
closes-after _ f rest calls (members n _ others _ ps _ after told left are) =
    goes_on n f rest calls (within n f rest calls (members n f others rest ps calls after told left are))

-- An event of this kind comes, and the calls that are left begin with its own.
stepped : (n : ℕ) (p : Passed) (kind : EventKind) (others rest : Future) (calls left : List SerializerCall) → p.event.kind ≡ kind →
    calls ≡ serializer_call_of kind ∷ left → After (containers_after kind n) others left rest → Stepped n (gives p others) calls rest
stepped n p kind others rest calls left k are after = record {
  passed = p;
  others = others;
  comes = refl;
  first = serializer_call_of kind;
  left = left;
  are = are;
  alike = λ o stack. ap (λ kind. addition o stack (serializer_call_of kind)) (sym k);
  after = subst (λ kind. After (containers_after kind n) others left rest) (sym k) after;
}

-- The last event of a container at this depth leaves one less.
closes-one : (n : ℕ) (f rest : Future) (calls : List SerializerCall) → Closes n f calls rest → After (suc n - 1) f calls rest
closes-one n f rest calls left =
    let one_less : n ≡ suc n - 1 = omega arith in
    subst (λ m. After m f calls rest) one_less (closes-after n f rest calls left)

-- The first event of a value.
value-step : (n : ℕ) (f others rest : Future) (t : Tree) (calls after : List SerializerCall) → Tells f t others → Closes n others after rest →
    calls ≡ tree_calls t ++ after → Stepped n f calls rest
unfolding tree_calls
value-step n _ others rest t calls after (a_scalar p _ v _ k told) left are =
    let same = scalar-alike v t told in
    record {
      passed = p;
      others = others;
      comes = refl;
      first = same.0;
      left = after;
      are = are ∙ ap (λ cs. cs ++ after) same.1;
      alike = λ o stack. same.2 o stack ∙ ap (λ kind. addition o stack (serializer_call_of kind)) (sym k);
      after = subst (λ kind. After (containers_after kind n) others after rest) (sym k) (closes-after n others rest after left);
    }
value-step n _ others rest _ calls after (a_list p inner _ c ts k told) left are =
    let more = item_calls ts ++ end_seq ∷ after in
    stepped n p (event.sequence_start c) inner rest calls more k
    (are ∙ ap (λ cs. begin_seq ∷ cs) (append_assoc (item_calls ts) (end_seq ∷ []) after))
    (goes_on n inner rest more (within n inner rest more (items n inner others rest ts more after told left refl)))
value-step n _ others rest _ calls after (an_object p inner _ c ps k told) left are =
    let more = member_calls ps ++ end_struct ∷ after in
    stepped n p (event.struct_start c) inner rest calls more k
    (are ∙ ap (λ cs. begin_struct ∷ cs) (append_assoc (member_calls ps) (end_struct ∷ []) after))
    (goes_on n inner rest more (within n inner rest more (members n inner others rest ps more after told left refl)))

-- The next event of a list.
items-step : (n : ℕ) (f others rest : Future) (ts : Trees) (calls after : List SerializerCall) → TellsItems f ts others → Closes n others after rest →
    calls ≡ item_calls ts ++ end_seq ∷ after → Stepped (suc n) f calls rest
unfolding tree_calls item_calls
items-step n _ others rest _ calls after (no_item p _ k) left are =
    stepped (suc n) p event.sequence_end others rest calls after k are (closes-one n others rest after left)
items-step n f others rest _ calls after (one_item _ behind _ t ts told more) left are =
    let next = item_calls ts ++ end_seq ∷ after in
    value-step (suc n) f behind rest t calls next told (items n behind others rest ts next after more left refl)
    (are ∙ append_assoc (tree_calls t) (item_calls ts) (end_seq ∷ after))

-- The next event of an object.
members-step : (n : ℕ) (f others rest : Future) (ps : Pairs) (calls after : List SerializerCall) → TellsMembers f ps others → Closes n others after rest →
    calls ≡ member_calls ps ++ end_struct ∷ after → Stepped (suc n) f calls rest
unfolding tree_calls member_calls
members-step n _ others rest _ calls after (no_member p _ k) left are =
    stepped (suc n) p event.struct_end others rest calls after k are (closes-one n others rest after left)
members-step n _ others rest _ calls after (one_member p inner behind _ name t ps k told more) left are =
    let next = member_calls ps ++ end_struct ∷ after in
    let here = tree_calls t ++ next in
    stepped (suc n) p (event.field_key name) inner rest calls here k
    (are ∙ ap (λ cs. field_key (bytes_of name) ∷ cs) (append_assoc (tree_calls t) (member_calls ps) (end_struct ∷ after)))
    (goes_on n inner rest here (value (suc n) inner behind rest t here next told (members n behind others rest ps next after more left refl) refl))

-- An event comes of what is left, and its call is the next one.
pub steps : (n : ℕ) (f : Future) (calls : List SerializerCall) (rest : Future) → Before n f calls rest → Stepped n f calls rest
steps n f calls rest (value _ _ others _ t _ after told left are) = value-step n f others rest t calls after told left are
steps _ f calls rest (within _ _ _ _ (items n _ others _ ts _ after told left are)) = items-step n f others rest ts calls after told left are
steps _ f calls rest (within _ _ _ _ (members n _ others _ ps _ after told left are)) = members-step n f others rest ps calls after told left are
