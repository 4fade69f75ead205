-- A value that is passed from a parser to a serializer: where both stand between two events, and how it ends.
use Rattle.std.proofs.Common.{◌≡◌, inl, inr, ℕ, List, [], ◌∷◌, Option, None, Some, Result, Ok, Err, refl, sym, ap, ◌∙◌, subst, append-nil, arith}
use Rattle.facet_format.specs.Complaint.{Refusal}
use Rattle.facet_format.specs.Event.{Passed}
use Rattle.facet_json_grammar.specs.Tree.{Tree}
use Rattle.facet_json_grammar.specs.Refusal.{IsStuck}
use Rattle.facet_json_grammar.specs.Future.{Future, gives, finished, stuck}
use Rattle.facet_json_grammar.specs.Now.{Now, future_of}
use Rattle.facet_format.specs.SerializerCall.{SerializerCall}
use Rattle.facet_json_serializer.specs.Serializer.{Writing, Addition, Misfit, addition, appended, Appends, appends, refuses, runs_out, stays_out, out_of_memory}
use Rattle.facet_json_serializer.specs.Serializer as serializer
use Rattle.facet_json_serializer.specs.TreeCalls.{and_then, after_calls, tree_calls, with_tree}
use Rattle.facet_json_serializer.proofs.TreesByCalls.{tree_by_calls}
use Rattle.facet_json_core.specs.Told.{Tells}
use Rattle.facet_json_core.specs.Reading.{LacksMemory, LacksOrStops, GivesNone, lacks_memory, at_the_end, is_stuck, IsValueUnread}
use Rattle.facet_json_core.specs.Transcode.{serializer_call_of, containers_after, IsWritten}
use Rattle.facet_json_core.proofs.ValuePasses.{nothing, Before, value, After, over, goes_on, AddAlike, steps}
use Rattle.facet_json_core.proofs.Cuts.{Cut, GoesOn, uncut, cut, past, value-ends}

-- ---- between two events

-- What comes goes on with what is left of the value, and the calls that are left make of what is written what is to be.
pub record Stands (L : ℕ → Future → List SerializerCall → Future → Type 0) (o : Option Cut) (now : Future) (depth : ℕ) (writing : Option Writing)
    (goal : Writing) (rest : Future) : Type 0 where
  pub ahead : Future
  pub on : GoesOn o now ahead
  pub calls : List SerializerCall
  pub is_left : L depth ahead calls rest
  pub written : Writing
  pub is : writing ≡ Some written
  pub left : after_calls written calls ≡ Ok goal

-- Whatever value the events tell, or would tell if they went on, the parser and the serializer stand within it.
abbrev pub StandsWithin : (ℕ → Future → List SerializerCall → Future → Type 0) → Future → Writing → ℕ → Future → Option Writing → Type 0
StandsWithin L start w depth now writing = (o : Option Cut) (g : Future) (v : Tree) (rest : Future) →
    GoesOn o start g → Tells g v rest → Stands L o now depth writing (with_tree w v) rest

-- before an event of the value
abbrev pub Passing : Future → Writing → ℕ → Future → Option Writing → Type 0
Passing = StandsWithin Before

-- after one
abbrev pub HasPassed : Future → Writing → ℕ → Future → Option Writing → Type 0
HasPassed = StandsWithin After

-- before the first event
pub begins : (start : Future) (w : Writing) (writing : Option Writing) → writing ≡ Some w → Passing start w 0 start writing
begins start w writing is o g v rest on told = record {
  ahead = g;
  on = on;
  calls = tree_calls v;
  is_left = value 0 g rest rest v (tree_calls v) [] told (nothing rest [] refl) (sym (append-nil (tree_calls v)));
  written = w;
  is = is;
  left = tree_by_calls w v;
}

-- Where containers are open, the value has not ended.
still : (depth : ℕ) (f : Future) (calls : List SerializerCall) (rest : Future) → ¬ (depth ≡ 0) → After depth f calls rest → Before depth f calls rest
still _ _ _ _ some (over rest) = absurd (some refl)
still _ f calls rest some (goes_on n _ _ _ before) = before

-- Then another event is to come.
pub goes-on : (start : Future) (w : Writing) (depth : ℕ) (now : Future) (writing : Option Writing) → ¬ (depth ≡ 0) →
    HasPassed start w depth now writing → Passing start w depth now writing
goes-on start w depth now writing some passed o g v rest on told =
    let s = passed o g v rest on told in
    record {
      ahead = s.ahead;
      on = s.on;
      calls = s.calls;
      is_left = still depth s.ahead s.calls rest some s.is_left;
      written = s.written;
      is = s.is;
      left = s.left;
    }

-- ---- one event

-- What goes on after an event goes on after it in what is left.
past-on : (o : Option Cut) (p q : Passed) (now f g h : Future) → GoesOn o now g → now ≡ gives p f → g ≡ gives q h → (p ≡ q) × GoesOn o f h
past-on _ p q _ f _ h (uncut x) e d =
    let both : gives p f ≡ gives q h = sym e ∙ d in
    let same : f ≡ h = cc in
    (cc, subst (λ x. GoesOn None f x) same (uncut f))
past-on _ p q _ f _ h (cut c) e d = cc
past-on _ p q _ f _ h (past o r a b on) e d =
    let before : a ≡ f = cc in
    let behind : b ≡ h = cc in
    (cc, subst (λ x. GoesOn o x h) before (subst (λ x. GoesOn o a x) behind on))

-- The call of an event does what the first call does that is left.
call-passes : (writing after : Option Writing) (w goal : Writing) (first call : SerializerCall) (left : List SerializerCall) (answer : Result (Unit {0}) serializer.WriteRefusal) →
    writing ≡ Some w → AddAlike first call → after_calls w (first ∷ left) ≡ Ok goal → Appends writing call answer after →
    answer ≡ Ok tt → (n : Writing) × (after ≡ Some n) × (after_calls n left ≡ Ok goal)
unfolding after_calls
call-passes _ _ w goal first call left _ is alike can (appends u _ a adds) ok =
    let same : u ≡ w = cc in
    let added : addition w.options w.stack first ≡ Ok a = alike w.options w.stack ∙ subst (λ x. addition x.options x.stack call ≡ Ok a) same adds in (
      appended u a,
      refl,
      subst (λ x. after_calls (appended x a) left ≡ Ok goal) (sym same)
          (sym (ap (λ r. and_then r (λ b. after_calls (appended w b) left)) added) ∙ can),
    )
call-passes _ _ w goal first call left _ is alike can (refuses u _ why adds) ok = cc
call-passes _ _ w goal first call left _ is alike can (runs_out u _ a adds) ok = cc
call-passes _ _ w goal first call left _ is alike can (stays_out _) ok = cc

-- It is refused for lack of memory alone.
call-refused : (writing after : Option Writing) (w goal : Writing) (first call : SerializerCall) (left : List SerializerCall) (answer : Result (Unit {0}) serializer.WriteRefusal)
    (r : serializer.WriteRefusal) → writing ≡ Some w → AddAlike first call → after_calls w (first ∷ left) ≡ Ok goal → Appends writing call answer after →
    answer ≡ Err r → r ≡ out_of_memory
unfolding after_calls
call-refused _ _ w goal first call left _ r is alike can (appends u _ a adds) refusal = cc
call-refused _ _ w goal first call left _ r is alike can (refuses u _ why adds) refusal =
    let same : u ≡ w = cc in
    let added : addition w.options w.stack first ≡ Err why = alike w.options w.stack ∙ subst (λ x. addition x.options x.stack call ≡ Err why) same adds in
    let none : Err why ≡ Ok goal = sym (ap (λ x. and_then x (λ b. after_calls (appended w b) left)) added) ∙ can in cc
call-refused _ _ w goal first call left _ r is alike can (runs_out u _ a adds) refusal = cc
call-refused _ _ w goal first call left _ r is alike can (stays_out _) refusal = cc

module _ (start : Future) (w : Writing) (depth : ℕ) (now : Future) (writing : Option Writing) (passing : Passing start w depth now writing) where
  -- An event is passed.
  pub one-passed : (p : Passed) (f : Future) (after : Option Writing) (answer : Result (Unit {0}) serializer.WriteRefusal) → now ≡ gives p f →
      Appends writing (serializer_call_of p.event.kind) answer after → answer ≡ Ok tt → HasPassed start w (containers_after p.event.kind depth) f after
  one-passed p f after answer comes call ok o g v rest on told =
      let s = passing o g v rest on told in
      let next = steps depth s.ahead s.calls rest s.is_left in
      let inside = past-on o p next.passed now f s.ahead next.others s.on comes next.comes in
      let kind = ap (λ (x : Passed). x.event.kind) inside.0 in
      let done = call-passes writing after s.written (with_tree w v) next.first (serializer_call_of p.event.kind) next.left answer s.is
      (subst (λ k. AddAlike next.first (serializer_call_of k)) (sym kind) next.alike)
      (sym (ap (after_calls s.written) next.are) ∙ s.left) call ok in
      record {
        ahead = next.others;
        on = inside.1;
        calls = next.left;
        is_left = subst (λ k. After (containers_after k depth) next.others next.left rest) (sym kind) next.after;
        written = done.0;
        is = done.1;
        left = done.2;
      }

  -- An event is not written.
  pub one-refused : (p : Passed) (f : Future) (after : Option Writing) (answer : Result (Unit {0}) serializer.WriteRefusal) (r : serializer.WriteRefusal) →
      now ≡ gives p f → Appends writing (serializer_call_of p.event.kind) answer after → answer ≡ Err r →
      (o : Option Cut) (g : Future) (v : Tree) (rest : Future) → GoesOn o start g → Tells g v rest → r ≡ out_of_memory
  one-refused p f after answer r comes call refusal o g v rest on told =
      let s = passing o g v rest on told in
      let next = steps depth s.ahead s.calls rest s.is_left in
      let inside = past-on o p next.passed now f s.ahead next.others s.on comes next.comes in
      let kind = ap (λ (x : Passed). x.event.kind) inside.0 in
      call-refused writing after s.written (with_tree w v) next.first (serializer_call_of p.event.kind) next.left answer r s.is
      (subst (λ k. AddAlike next.first (serializer_call_of k)) (sym kind) next.alike)
      (sym (ap (after_calls s.written) next.are) ∙ s.left) call refusal

-- ---- how it ends

-- No more is to come, and no call is left.
ended : (depth : ℕ) (f : Future) (calls : List SerializerCall) (rest : Future) → depth ≡ 0 → After depth f calls rest → (f ≡ rest) × (calls ≡ [])
ended _ _ _ _ none (over rest) = (refl, refl)
ended _ f calls rest none (goes_on n _ _ _ before) = absurd (omega (arith, none))

uncut-same : (f g : Future) (o : Option Cut) → o ≡ None → GoesOn o f g → f ≡ g
uncut-same _ _ _ none (uncut f) = refl
uncut-same _ _ _ none (cut c) = cc
uncut-same _ _ _ none (past o p f g on) = ap (gives p) (uncut-same f g o none on)

cut-goes_on : (f g : Future) (o : Option Cut) (c : Cut) → o ≡ Some c → g ≡ finished → GoesOn o f g → ⊥
cut-goes_on _ _ _ c is end (uncut f) = cc
cut-goes_on _ _ _ c is end (cut d) = cc
cut-goes_on _ _ _ c is end (past o p f g on) = cc

-- After the last event the value is written.
pub written : (start : Future) (w : Writing) (depth : ℕ) (now : Future) (writing : Option Writing) → depth ≡ 0 →
    HasPassed start w depth now writing → IsWritten start w now writing
unfolding after_calls
written start w depth now writing none passed = record {
  told = λ v rest told.
      let s = passed None start v rest (uncut start) told in
      let end = ended depth s.ahead s.calls rest none s.is_left in
      let all : Ok s.written ≡ Ok (with_tree w v) = sym (ap (after_calls s.written) end.1) ∙ s.left in
      let same : s.written ≡ with_tree w v = cc in
      (s.is ∙ ap Some same, uncut-same now s.ahead None refl s.on ∙ end.0);
  whole = λ place rest broken.
      let e = value-ends place rest start finished broken in
      let s = passed (Some (record { place = place; tokens = rest; first = e.first; others = e.others })) e.whole e.value finished e.on e.told in
      cut-goes_on now s.ahead _ _ refl (ended depth s.ahead s.calls finished none s.is_left).0 s.on;
}

-- ---- how it is refused

pub none-lacks : (now : Now) (r : Refusal) (p : Passed) (f : Future) → future_of now ≡ gives p f → GivesNone now r → LacksMemory r
none-lacks now r p f comes (lacks_memory h) = h
none-lacks now r p f comes (at_the_end g) = cc
none-lacks now r p f comes (is_stuck place rest g s) = cc

cut-stops : (now : Now) (r : Refusal) (o : Option Cut) (c : Cut) (f g : Future) → o ≡ Some c → GoesOn o f g → future_of now ≡ f → GivesNone now r →
    LacksOrStops now.buffer c.place c.tokens r
cut-stops now r _ c _ _ is (uncut f) at none = cc
cut-stops now r _ c _ _ is (cut d) at (lacks_memory h) = inl h
cut-stops now r _ c _ _ is (cut d) at (at_the_end e) = cc
cut-stops now r _ c _ _ is (cut d) at (is_stuck place rest e s) =
    let both : stuck place rest ≡ stuck d.place d.tokens = sym e ∙ at in
    let same : d ≡ c = cc in
    let place_is : place ≡ d.place = cc in
    let tokens_are : rest ≡ d.tokens = cc in
    inr (subst (λ x. IsStuck now.buffer x.place x.tokens r) same
    (subst (λ x. IsStuck now.buffer x d.tokens r) place_is (subst (λ x. IsStuck now.buffer place x r) tokens_are s)))
cut-stops now r _ c _ _ is (past o p f g on) at (lacks_memory h) = inl h
cut-stops now r _ c _ _ is (past o p f g on) at (at_the_end e) = cc
cut-stops now r _ c _ _ is (past o p f g on) at (is_stuck place rest e s) = cc

-- The parser gives no event.
pub none-unread : (start : Future) (w : Writing) (depth : ℕ) (now : Now) (writing : Option Writing) (buffer : List ℕ) (r : Refusal) →
    now.buffer ≡ buffer → Passing start w depth (future_of now) writing → GivesNone now r → IsValueUnread buffer start r
none-unread start w depth now writing buffer r same passing none = record {
  told = λ v rest told.
      let s = passing None start v rest (uncut start) told in
      let next = steps depth s.ahead s.calls rest s.is_left in
      none-lacks now r next.passed next.others (uncut-same (future_of now) s.ahead None refl s.on ∙ next.comes) none;
  broken = λ place rest broken.
      let e = value-ends place rest start finished broken in
      let s = passing (Some (record { place = place; tokens = rest; first = e.first; others = e.others })) e.whole e.value finished e.on e.told in
      subst (λ b. LacksOrStops b place rest r) same (cut-stops now r _ _ (future_of now) s.ahead refl s.on refl none);
}
