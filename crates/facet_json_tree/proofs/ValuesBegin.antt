-- How a value begins: with a whole tree or an empty container, or refused at its first event.
use Rattle.std.proofs.Common.{◌≡◌, ◌≢◌, ◌≤◌, ◌+◌, inl, ℕ, Bool, true, false, List, Option, None, Some, Ok, refl, ap, subst, ◌∙◌}
use Rattle.std.specs.Option.{IfSome}
use Rattle.facet_format.specs.declared.event.Span.{Span}
use Rattle.facet_format.specs.Complaint.{Refusal}
use Rattle.facet_format.specs.Cursor.{next, event}
use Rattle.facet_format.specs.Event.{Event, EventKind, Scalar, scalar, null, unit, bool, char, i64, u64, i128, u128, decimal, text, bytes, struct_start, struct_end, sequence_start, sequence_end, field_key, Passed}
use Rattle.facet_json_token.specs.Tokens.{Tokens}
use Rattle.facet_json_grammar.specs.Tree.{Tree, Trees, no_trees, Pairs, no_pairs, list, pairs}
use Rattle.facet_json_grammar.specs.Place.{Place}
use Rattle.facet_json_grammar.specs.Future.{Future, gives}
use Rattle.facet_json_grammar.specs.Now.{Now}
use Rattle.facet_json_grammar.specs.Move.{Moves}
use Rattle.facet_json_grammar.specs.Next.{PassesNext}
use Rattle.facet_json_core.specs.Told.{tree_of_scalar, opens, begins}
use Rattle.facet_json_core.specs.Reading.{LacksMemory, IsUnreadBy, IsValueUnread}
use Rattle.facet_json_core.proofs.Meaning.OneValue.EventsPassed.{next-passes_by_kind}
use Rattle.facet_json_tree.specs.Inner.Reading.{AreItemsRead, AreMembersRead, HasBegun, whole, a_list, an_object, BeganValue, IsFilled}
use Rattle.facet_json_tree.proofs.FirstEventTells.{told-begins, broken-opens, list-told, object-told, list-broken, object-broken}

-- ---- the first event

-- The event with which a value begins is no end of a list.
pub begun-no_end : {limit : Option ℕ} {kind : EventKind} {t : Tree} → HasBegun limit kind t → kind ≢ sequence_end
begun-no_end (whole value k s) e = cc
begun-no_end (a_list c k s admits) e = cc
begun-no_end (an_object c k s admits) e = cc

pub opens-begins : (kind : EventKind) → opens kind ≡ true → begins kind ≡ true
opens-begins (struct_start c) h = refl
opens-begins struct_end h = cc
opens-begins (sequence_start c) h = refl
opens-begins sequence_end h = cc
opens-begins (field_key name) h = cc
opens-begins (scalar value) h = refl

-- Where no value begins, none is read.
pub begins_none-unread : (p : Passed) (f : Future) (buffer : List ℕ) (r : Refusal) → begins p.event.kind ≡ false → IsValueUnread buffer (gives p f) r
begins_none-unread p f buffer r none = record {
  told = λ t rest s. let begun = told-begins p f rest t s in cc;
  broken = λ place rest b. let begun = opens-begins p.event.kind (broken-opens place rest p f b) in cc;
}

-- What lacked memory is unread.
pub lacks-unread : {V : Type 0} {tells : Future → V → Future → Type 0} {breaks : Place → Tokens → Future → Type 0}
    {buffer : List ℕ} {f : Future} {r : Refusal} → LacksMemory r → IsUnreadBy V tells breaks buffer f r
lacks-unread h = record { told = λ v rest s. h; broken = λ place rest b. inl h }

-- The event that the parser gave is the first of the value.
pub began : (limit : Option ℕ) (old : Now) (e : Event) (t : Tree) (new : Now) → PassesNext old e new → HasBegun limit e.kind t →
    Moves old next (event (Ok (Some e))) new → BeganValue limit old t new
began limit old e t new g h move = record {
  passed = record { event = e; last = g.last };
  comes = g.comes;
  begun = h;
  free = g.free;
  by_kind = next-passes_by_kind old new e move;
}

-- Where the event is within the input, the refusal is.
pub span-within : (o : Option Span) (s : Span) (end : ℕ) → IfSome o (λ x. x ≡ s) → s.offset + s.len ≤ end → IfSome o (λ x. x.offset + x.len ≤ end)
span-within None s end is h = tt
span-within (Some x) s end is h = rw is h

-- ---- what is left to be read

-- a list or an object
abbrev holds_others : Tree → Bool
holds_others (list ts) = true
holds_others (pairs ps) = true
holds_others _ = false

scalar-plain : (value : Scalar) → IfSome (tree_of_scalar value) (λ t. holds_others t ≡ false)
scalar-plain null = refl
scalar-plain unit = refl
scalar-plain (bool b) = refl
scalar-plain (char c) = tt
scalar-plain (i64 n) = refl
scalar-plain (u64 n) = refl
scalar-plain (i128 n) = tt
scalar-plain (u128 n) = tt
scalar-plain (decimal t) = refl
scalar-plain (text t) = refl
scalar-plain (bytes b) = tt

pub scalar-no_list : (value : Scalar) (ts : Trees) → tree_of_scalar value ≡ Some (list ts) → ⊥
scalar-no_list value ts e = let plain = subst (λ o. IfSome o (λ t. holds_others t ≡ false)) e (scalar-plain value) in cc

pub scalar-no_pairs : (value : Scalar) (ps : Pairs) → tree_of_scalar value ≡ Some (pairs ps) → ⊥
scalar-no_pairs value ps e = let plain = subst (λ o. IfSome o (λ t. holds_others t ≡ false)) e (scalar-plain value) in cc

-- A list is read where its items are.
pub list-filled : (limit : Option ℕ) (ts us : Trees) (f rest : Future) → (ts ≡ no_trees → AreItemsRead f us rest) →
    IsFilled limit (list ts) f (list us) rest
list-filled limit ts us f rest read p (whole value k s) = absurd (scalar-no_list value ts s)
list-filled limit ts us f rest read p (a_list c k e admits) =
    let items = read (cc) in
    record {
      told = λ t behind s. let h = list-told p f behind t c k s in let both = items.told h.0 behind h.2 in (ap list both.0 ∙ h.1, both.1);
      whole = λ place left b. items.whole place left (list-broken place left p f c k b);
    }
list-filled limit ts us f rest read p (an_object c k e admits) = cc

-- An object is read where its members are.
pub object-filled : (limit : Option ℕ) (ps qs : Pairs) (f rest : Future) → (ps ≡ no_pairs → AreMembersRead f qs rest) →
    IsFilled limit (pairs ps) f (pairs qs) rest
object-filled limit ps qs f rest read p (whole value k s) = absurd (scalar-no_pairs value ps s)
object-filled limit ps qs f rest read p (a_list c k e admits) = cc
object-filled limit ps qs f rest read p (an_object c k e admits) =
    let members = read (cc) in
    record {
      told = λ t behind s. let h = object-told p f behind t c k s in let both = members.told h.0 behind h.2 in (ap pairs both.0 ∙ h.1, both.1);
      whole = λ place left b. members.whole place left (object-broken place left p f c k b);
    }
