-- How types read a scalar whose event is known.
use Rattle.std.specs.Prelude.{◌≡◌, ℕ, false, cond, List, [], length, Option, Some, None}
use Rattle.std.specs.Option.{option_map}
use Rattle.std.proofs.Common.{refl, sym, ap, ◌∙◌}
use Rattle.facet_format.specs.Event.{Event, Passed, Scalar}
use Rattle.facet_format.specs.Event as event
use Rattle.facet_json_grammar.specs.Node.{Node}
use Rattle.facet_json_grammar.specs.Node as node
use Rattle.facet_json_grammar.specs.Now.{Now}
use Rattle.facet_json_grammar.specs.Tree.{Tree}
use Rattle.facet_json_grammar.specs.Meaning.{tree_of}
use Rattle.facet_json_grammar.specs.Walk.{walk}
use Rattle.facet_json_core.specs.Meaning.Borrowed.{borrowed_text, lent}
use Rattle.facet_json_core.specs.Meaning.Optional.{is_null_node, is_null_event, optional}
use Rattle.facet_json_core.specs.Meaning.Passing.{WalksPast}
use Rattle.facet_json_core.specs.Meaning.Reading.{IsRead}
use Rattle.facet_json_core.specs.Meaning.Readings.{leaf, taken}
use Rattle.facet_json_core.specs.Meaning.Scalars.{IsScalarOf, ReadsScalar}
use Rattle.facet_json_core.specs.Meaning.Shapes.{Reading}
use Rattle.facet_json_core.proofs.Meaning.Leaves.BorrowedLaws.{lent-first}
use Rattle.facet_json_core.proofs.Meaning.Leaves.LeafReadings.{leaf-taken}
use Rattle.facet_json_core.proofs.Meaning.Walks.FirstEvents.{first_event, walk-begins, first-passed, after-one, null-first}

-- ---- a scalar's event

-- It is the first of the node.
scalar-first : (buffer : List ℕ) (n : Node) (value : Scalar) (one : IsScalarOf buffer n value) → (first_event buffer n).event.kind ≡ event.scalar value
scalar-first buffer n value one = rw one.is one.so

-- A node that begins with it is it alone.
scalar-node : (buffer : List ℕ) (n : Node) (value : Scalar) (tree : Tree) → tree_of buffer n ≡ Some tree →
    (first_event buffer n).event.kind ≡ event.scalar value → IsScalarOf buffer n value
scalar-node buffer (node.scalar token) value tree meant so = record { token = token; is = refl; tree = tree; meant = meant; so = so }
scalar-node buffer (node.array first last nodes) value tree meant so = cc
scalar-node buffer (node.object first last inside) value tree meant so = cc

scalar-one : (buffer : List ℕ) (n : Node) (value : Scalar) → (first_event buffer n).event.kind ≡ event.scalar value → length (walk buffer n) ≡ 1
unfolding walk
scalar-one buffer (node.scalar token) value so = refl
scalar-one buffer (node.array first last nodes) value so = cc
scalar-one buffer (node.object first last inside) value so = cc

-- Once it is passed, the value is read.
pub scalar-read : {V : Type 0} (reading : Reading V) (value : Scalar) (v : V) (old new : Now) (e : Event) → WalksPast old e new →
    e.kind ≡ event.scalar value → ReadsScalar reading value v → IsRead reading old v new
scalar-read reading value v old new e walks kind reads w c n before =
    let so = ap (λ (x : Event). x.kind) (first-passed old new e w c n walks before) ∙ kind in (
      reads w.bytes n (scalar-node w.bytes n value before.value before.meant so),
      after-one old new e w c n walks before (scalar-one w.bytes n value so),
    )

-- ---- types

leaf-first : {V : Type 0} (takes : Tree → Option V) (buffer : List ℕ) (n : Node) (tree : Tree) → tree_of buffer n ≡ Some tree →
    taken takes (first_event buffer n).event.kind ≡ leaf takes buffer n
leaf-first takes buffer n tree meant =
    let begins = walk-begins buffer n [] in leaf-taken takes buffer n tree (first_event buffer n) [] begins.0 meant begins.1

-- What is taken of its event is read of it.
pub leaf-scalar : {V : Type 0} (takes : Tree → Option V) (value : Scalar) (v : V) → taken takes (event.scalar value) ≡ Some v →
    ReadsScalar (leaf takes) value v
leaf-scalar takes value v is buffer n one =
    sym (leaf-first takes buffer n one.tree one.meant) ∙ ap (taken takes) (scalar-first buffer n value one) ∙ is

-- A text without an escape is lent.
pub lent-scalar : (text : List ℕ) → ReadsScalar borrowed_text (event.text (event.borrowed text)) text
lent-scalar text buffer n one = sym (lent-first buffer n) ∙ ap lent (scalar-first buffer n (event.text (event.borrowed text)) one)

module _ {V : Type 0} (reading : Reading V) where
  null-node : (buffer : List ℕ) (n : Node) (value : Scalar) (one : IsScalarOf buffer n value) →
      is_null_event (event.scalar value) ≡ is_null_node n
  null-node buffer n value one = ap is_null_event (sym (scalar-first buffer n value one)) ∙ null-first buffer n one.tree one.meant

  -- Null is no value.
  pub null-scalar : ReadsScalar (optional reading) event.null None
  null-scalar buffer n one =
      ap (λ b. cond b (Some None) (option_map Some (reading buffer n))) (sym (null-node buffer n event.null one))

  not-null : (value : Scalar) → (value ≡ event.null → ⊥) → is_null_event (event.scalar value) ≡ false
  not-null event.null other = absurd (other refl)
  not-null _ other = refl

  -- Another scalar is a value.
  pub value-scalar : (value : Scalar) (v : V) → (value ≡ event.null → ⊥) → ReadsScalar reading value v → ReadsScalar (optional reading) value (Some v)
  value-scalar value v other reads buffer n one =
      ap (λ b. cond b (Some None) (option_map Some (reading buffer n))) (sym (null-node buffer n value one) ∙ not-null value other)
      ∙ ap (option_map Some) (reads buffer n one)
