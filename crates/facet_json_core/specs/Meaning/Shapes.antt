-- How the values of a type are read and written.
use Rattle.std.specs.Prelude.{ℕ, List, Option}
use Rattle.std.specs.Option.{IfSome}
use Rattle.facet_json_grammar.specs.Node.{Node}
use Rattle.facet_json_grammar.specs.Tree.{Tree}
use Rattle.facet_json_core.specs.Meaning.Laws.{SameReading, ReadsBack}
use Rattle.facet_json_core.specs.Meaning.Optional.{optional, optional_tree, OptionalReadable}

-- as what a node of a buffer is read
abbrev pub Reading : Type 0 → Type 0
Reading V = List ℕ → Node → Option V

-- As what a node of a buffer is read, where nothing of the input is borrowed, and where it may be; as what tree a value is written; what
-- every value has: a number lies within its bits, a `String` is UTF-8, a map's keys ascend; and which values come back from their text.
pub record Shape (V : Type 0) : Type 1 where
  pub reading : Reading V
  pub reading_borrowed : Reading V
  pub tree_of : V → Tree
  pub always : V → Type 0
  pub readable : V → Type 0

-- Nodes that the same bytes spell are read alike, and the text of a readable value is read as the value.
pub record ShapeLaws {V : Type 0} (s : Shape V) : Type 0 where
  pub same_reading : SameReading s.reading
  pub same_reading_borrowed : SameReading s.reading_borrowed
  pub reads_back : ReadsBack s.reading s.tree_of s.always s.readable

abbrev pub shape : {V : Type 0} → Reading V → Reading V → (V → Tree) → (V → Type 0) → (V → Type 0) → Shape V
shape reading reading_borrowed tree_of always readable =
    record { reading = reading; reading_borrowed = reading_borrowed; tree_of = tree_of; always = always; readable = readable }

-- a value that may be null
abbrev pub nullable : {V : Type 0} → Shape V → Shape (Option V)
nullable s =
    shape (optional s.reading) (optional s.reading_borrowed) (optional_tree s.tree_of) (λ o. IfSome o s.always) (OptionalReadable s.tree_of s.readable)
