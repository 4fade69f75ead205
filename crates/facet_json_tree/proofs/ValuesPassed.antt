-- What a reader of a tree passes: a value with its first event and what is left of it then.
use Rattle.std.proofs.Common.{◌≡◌, ℕ, List, Option, Some, Ok, ◌∙◌, subst}
use Rattle.facet_format.specs.Cursor.{next, event}
use Rattle.facet_format.specs.Event.{array, object, Event, EventKind, Scalar}
use Rattle.facet_json_grammar.specs.Tree.{Tree, list, pairs}
use Rattle.facet_json_grammar.specs.Move.{Moves}
use Rattle.facet_json_grammar.specs.Next.{PassesNext}
use Rattle.facet_json_grammar.specs.Now.{Now, SameInput}
use Rattle.facet_json_core.specs.Told.{tree_of_scalar}
use Rattle.facet_json_core.specs.Meaning.OneValue.{PassesValue, IsInside, PassesByKind}
use Rattle.facet_json_core.proofs.Meaning.OneValue.EventsPassed.{next-passes_by_kind}
use Rattle.facet_json_core.proofs.Meaning.OneValue.WithinValues.{inside-value}
use Rattle.facet_json_tree.specs.Inner.Reading.{HasBegun, whole, a_list, an_object, BeganValue, BeganMember, PassedEnd, IsKey, PassesRest}
use Rattle.facet_json_tree.proofs.ValuesBegin.{scalar-no_list, scalar-no_pairs}

-- ---- a value

-- Of a scalar nothing is left.
scalar-rest : (value : Scalar) (t : Tree) (mid new : Now) → tree_of_scalar value ≡ Some t → PassesRest t mid new → new.cursor.spot ≡ mid.cursor.spot
scalar-rest value (list items) mid new is rest = absurd (scalar-no_list value items is)
scalar-rest value (pairs members) mid new is rest = absurd (scalar-no_pairs value members is)
scalar-rest value _ mid new is rest = rest

rest-passed : {limit : Option ℕ} {kind : EventKind} {t : Tree} (old mid new : Now) → HasBegun limit kind t → PassesByKind kind old mid →
    PassesRest t mid new → PassesValue old new
rest-passed {t = t} old mid new (whole value k is) first rest =
    let v : PassesValue old mid = subst (λ x. PassesByKind x old mid) k first in
    record {
      first = v.first;
      others = v.others;
      before = v.before;
      passed = record {
        last = v.passed.last;
        rest = v.passed.rest;
        run = v.passed.run;
        there = scalar-rest value t mid new is rest ∙ v.passed.there;
      };
    }
rest-passed old mid new (a_list c k is admits) first rest =
    let inside : IsInside array old mid = subst (λ x. PassesByKind x old mid) k first in
    subst (λ t. PassesRest t mid new) is rest old inside
rest-passed old mid new (an_object c k is admits) first rest =
    let inside : IsInside object old mid = subst (λ x. PassesByKind x old mid) k first in
    subst (λ t. PassesRest t mid new) is rest old inside

-- With what is left of it the value is passed.
pub value-passed : (limit : Option ℕ) (old mid new : Now) (t : Tree) → BeganValue limit old t mid → PassesRest t mid new → PassesValue old new
value-passed limit old mid new t began rest = rest-passed old mid new began.begun began.by_kind rest

-- ---- within a container

pub input-then : (old mid new : Now) → SameInput old mid → SameInput mid new → SameInput old new
input-then old mid new first second = record { buffer = second.buffer ∙ first.buffer; language = second.language ∙ first.language }

-- After an item the parser is within the same list.
pub item-inside : (limit : Option ℕ) (start old mid new : Now) (t : Tree) → IsInside array start old → BeganValue limit old t mid → SameInput old mid →
    PassesRest t mid new → SameInput mid new → IsInside array start new
item-inside limit start old mid new t inside began to rest on =
    inside-value array start old new inside (input-then old mid new to on) (value-passed limit old mid new t began rest)

-- After a member it is within the same object.
pub member-inside : (limit : Option ℕ) (start old mid new : Now) (key : List ℕ) (t : Tree) → IsInside object start old → BeganMember limit old key t mid →
    PassesRest t mid new → SameInput mid new → IsInside object start new
member-inside limit start old mid new key t inside began rest on =
    inside-value object start began.between new (began.inside.0 start inside) (input-then began.between mid new began.input on)
    (value-passed limit began.between mid new t began.value rest)

-- ---- events

-- The event that is passed ends a container.
pub end-passed : (kind : EventKind) (old new : Now) (e : Event) → PassesNext old e new → e.kind ≡ kind → Moves old next (event (Ok (Some e))) new →
    PassedEnd kind old new
end-passed kind old new e gave is move = record {
  passed = record { event = e; last = gave.last };
  comes = gave.comes;
  ends = is;
  free = gave.free;
  by_kind = subst (λ k. PassesByKind k old new) is (next-passes_by_kind old new e move);
}

-- The event that is passed is a key, and its value begins.
pub member-began : (limit : Option ℕ) (old mid new : Now) (e : Event) (bytes : List ℕ) (t : Tree) → PassesNext old e mid → IsKey e.kind bytes →
    Moves old next (event (Ok (Some e))) mid → BeganValue limit mid t new → SameInput mid new → BeganMember limit old bytes t new
member-began limit old mid new e bytes t gave key move began input = record {
  passed = record { event = e; last = gave.last };
  between = mid;
  comes = gave.comes;
  name = key.name;
  is_key = key.is_key;
  bytes = key.bytes;
  inside = subst (λ k. PassesByKind k old mid) key.is_key (next-passes_by_kind old mid e move);
  value = began;
  input = input;
}
