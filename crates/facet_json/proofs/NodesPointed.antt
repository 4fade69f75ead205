-- What one token of a pointer names within the node that comes next: a member's value, an item, or nothing.
use Rattle.std.specs.Prelude.{ℕ, List, MatchBool, option_and_then}
use Rattle.std.proofs.Common.{◌≡◌, Bool, true, false, Option, None, Some, refl, ap, ◌∙◌}
use Rattle.facet_format.specs.Complaint.{Refusal}
use Rattle.facet_format.specs.Cursor.{Cursor, unpeeked}
use Rattle.facet_format.specs.Event.{Event, EventKind, struct_start, sequence_start}
use Rattle.facet_format.specs.Event as event
use Rattle.facet_format.specs.Part.{Source}
use Rattle.facet_json_grammar.specs.Node.{Node, scalar, array, object, Nodes, Members}
use Rattle.facet_json_grammar.specs.Now.{Now}
use Rattle.facet_json_grammar.specs.Walk.{walk}
use Rattle.facet_json_core.specs.Meaning.ListSteps.{nodes_of, begins_list}
use Rattle.facet_json_core.specs.Meaning.Nodes.{StandsBefore}
use Rattle.facet_json_core.specs.Meaning.Objects.{members_of, begins_object}
use Rattle.facet_json_core.specs.Meaning.Passing.{WalksPast, LacksAlone}
use Rattle.facet_json_core.proofs.Meaning.Objects.MembersOnWalk.{AtMembers, object-begins}
use Rattle.facet_json_core.proofs.Meaning.Sequences.ListSteps.{array-begins}
use Rattle.facet_json_core.proofs.Meaning.Walks.FirstEvents.{first_event, first-stands, first-passed, after-one}
use Rattle.facet_json_tree.specs.Pointer.{index}
use Rattle.facet_json_core.specs.Finding.{from_key, StandsAmong, FindsKey, FindsFirst, FindsNone, LacksMembers}
use Rattle.facet_json.specs.Pointed.{first_value, item_node, child_node, LacksNode}
use Rattle.facet_json.specs.Inner.Pointing.{begun_by, FindsIt, FindsChild, FindsItem, LacksItems}
use Rattle.facet_json.specs.declared.pointer.Begun.TheVariants as begun

-- ---- what begins

begins-object : (kind : EventKind) → begun_by kind ≡ Some begun.Object → begins_object kind ≡ true
begins-object (struct_start kind) e = refl
begins-object event.struct_end e = cc
begins-object (sequence_start kind) e = cc
begins-object event.sequence_end e = cc
begins-object (event.field_key name) e = cc
begins-object (event.scalar value) e = cc

begins-list : (kind : EventKind) → begun_by kind ≡ Some begun.List → begins_list kind ≡ true
begins-list (sequence_start kind) e = refl
begins-list (struct_start kind) e = cc
begins-list event.struct_end e = cc
begins-list event.sequence_end e = cc
begins-list (event.field_key name) e = cc
begins-list (event.scalar value) e = cc

-- ---- an object

child-member : (name buffer : List ℕ) (n : Node) (inner : Members) → members_of buffer n ≡ Some inner →
    child_node name buffer n ≡ first_value (from_key name buffer inner)
child-member name buffer (scalar t) inner e = cc
child-member name buffer (array first last nodes) inner e = cc
child-member name buffer (object first last inside) inner e =
    let same : inside ≡ inner = cc in ap (λ ms. first_value (from_key name buffer ms)) same

among : (now : Now) (w : Source) (c : Cursor ℕ) (n : Node) (inner : Members) (at : AtMembers now w c n inner) →
    StandsAmong now w at.cursor inner at.last at.others
among now w c n inner at =
    record { stands = at.stands; free = at.free; comes = at.comes; values = at.values; meant = at.meant }

-- A member is found among those of the node, or none.
by_member : (name : List ℕ) (is : Bool) (mid new : Now) (w : Source) (c : Cursor ℕ) (n : Node) (members : Members) → members_of w.bytes n ≡ Some members →
    (at : AtMembers mid w c n members) →
    MatchBool is (FindsFirst name new w at.cursor members at.last at.others) (FindsNone name new w at.cursor members) →
    FindsIt (child_node name w.bytes n) is new w c n
by_member name true mid new w c n members are at f = record {
  node = f.value;
  is = child-member name w.bytes n members are ∙ ap first_value f.first;
  cursor = f.cursor;
  before = f.before;
  kept = λ point spot e. f.kept point spot (at.kept point spot e);
}
by_member name false mid new w c n members are at f = (
  child-member name w.bytes n members are ∙ ap first_value f.none,
  record {
    cursor = f.cursor;
    stands = f.stands;
    free = f.free;
    there = f.there ∙ ap unpeeked at.counts;
    kept = λ point spot e. f.kept point spot (at.kept point spot e);
  },
)

pub in-object : (name : List ℕ) (is : Bool) (old mid new : Now) (given : Event) → begun_by given.kind ≡ Some begun.Object → WalksPast old given mid →
    FindsKey name mid is new → FindsChild name old is new
in-object name is old mid new given begins walks finds w c n before =
    let b = object-begins old mid (given, begins-object given.kind begins, walks) w c n before in
    by_member name is mid new w c n b.members b.is b.at
    (finds w b.at.cursor b.members b.at.last b.at.others (among mid w c n b.members b.at))

pub in-object-lacks : (old mid : Now) (given : Event) (r : Refusal) → begun_by given.kind ≡ Some begun.Object → WalksPast old given mid →
    LacksMembers mid r → LacksNode old r
in-object-lacks old mid given r begins walks lacks w c n before =
    let b = object-begins old mid (given, begins-object given.kind begins, walks) w c n before in
    lacks w b.at.cursor b.members b.at.last b.at.others (among mid w c n b.members b.at)

-- ---- an array

child-item : (name buffer : List ℕ) (n : Node) (nodes : Nodes) → nodes_of buffer n ≡ Some nodes →
    child_node name buffer n ≡ option_and_then (λ i. item_node i nodes) (index name)
child-item name buffer (scalar t) nodes e = cc
child-item name buffer (array first last inside) nodes e =
    let same : inside ≡ nodes = cc in ap (λ ns. option_and_then (λ i. item_node i ns) (index name)) same
child-item name buffer (object first last inside) nodes e = cc

by_wanted : (o wanted : Option Node) (is : Bool) (new : Now) (w : Source) (c : Cursor ℕ) (n : Node) → o ≡ wanted → FindsIt wanted is new w c n →
    FindsIt o is new w c n
by_wanted o wanted is new w c n same f = rw same f

pub in-list : (name : List ℕ) (wanted : Option ℕ) (is : Bool) (old mid new : Now) (given : Event) → index name ≡ wanted →
    begun_by given.kind ≡ Some begun.List → WalksPast old given mid → FindsItem wanted mid is new → FindsChild name old is new
in-list name wanted is old mid new given same begins walks finds w c n before =
    let b = array-begins old mid given w c n (begins-list given.kind begins) walks before in
    by_wanted _ _ is new w c n
    (child-item name w.bytes n b.nodes b.is ∙ ap (option_and_then (λ i. item_node i b.nodes)) same) (finds w c n b.nodes b.at)

pub in-list-lacks : (old mid : Now) (given : Event) (r : Refusal) → begun_by given.kind ≡ Some begun.List → WalksPast old given mid →
    LacksItems mid r → LacksNode old r
in-list-lacks old mid given r begins walks lacks w c n before =
    let b = array-begins old mid given w c n (begins-list given.kind begins) walks before in lacks w c n b.nodes b.at

-- ---- a scalar

pub in-scalar : (name : List ℕ) (old new : Now) (given : Event) → begun_by given.kind ≡ Some begun.Scalar → WalksPast old given new →
    FindsChild name old false new
unfolding walk
in-scalar name old new given begins walks w c n before = by n before
  where
    by : (m : Node) → StandsBefore old w c m → FindsIt (child_node name w.bytes m) false new w c m
    by (scalar t) before = (refl, after-one old new given w c (scalar t) walks before refl)
    by (array first last nodes) before =
        let kind = ap (λ (e : Event). begun_by e.kind) (first-passed old new given w c (array first last nodes) walks before) ∙ begins in cc
    by (object first last inside) before =
        let kind = ap (λ (e : Event). begun_by e.kind) (first-passed old new given w c (object first last inside) walks before) ∙ begins in cc

-- ---- no value

begins-some : (buffer : List ℕ) (n : Node) → begun_by (first_event buffer n).event.kind ≡ None → ⊥
begins-some buffer (scalar t) e = cc
begins-some buffer (array first last nodes) e = cc
begins-some buffer (object first last inside) e = cc

-- Before a node an event comes that begins a value.
pub no-value : (old new : Now) (given : Event) (r : Refusal) → begun_by given.kind ≡ None → WalksPast old given new → LacksNode old r
no-value old new given r none walks w c n before =
    absurd (begins-some w.bytes n (ap (λ (e : Event). begun_by e.kind) (first-passed old new given w c n walks before) ∙ none))

-- No event was read.
pub no-event : (old : Now) (r : Refusal) → LacksAlone old r → LacksNode old r
no-event old r lacks w c n before = lacks.lacks w c (first_event w.bytes n) before.stands before.free (first-stands old w c n before)
