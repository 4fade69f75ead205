-- The laws of a type that is read and written.
use Rattle.std.specs.Prelude.{◌≡◌, ℕ, List, Option, Some}
use Rattle.facet_json_grammar.specs.Document.{IsWholeDocument}
use Rattle.facet_json_grammar.specs.Node.{Node}
use Rattle.facet_json_grammar.specs.Text.{text, default_options}
use Rattle.facet_json_grammar.specs.Tree.{Tree}
use Rattle.facet_json_grammar.specs.AsRead.{RawParts, IsDocumentText}
use Rattle.facet_json_core.specs.Meaning.Nodes.{SameText}

-- Nodes that the same bytes spell have the same reading.
abbrev pub SameReading : {V : Type 0} → (List ℕ → Node → Option V) → Type 0
SameReading reading = (these those : List ℕ) (n m : Node) → SameText these those n m → reading these n ≡ reading those m

-- The text is one document, which reads as the value.
pub record ReadsAs (V : Type 0) (reading : List ℕ → Node → Option V) (bytes : List ℕ) (value : V) : Type 0 where
  pub root : Node
  pub tree : Tree
  pub document : IsWholeDocument bytes root tree
  pub is_read : reading bytes root ≡ Some value

-- Of a value with what every value of the type has, and which is readable, the tree's raw parts are documents, and its text reads as the value.
abbrev pub ReadsBack : {V : Type 0} → (List ℕ → Node → Option V) → (V → Tree) → (V → Type 0) → (V → Type 0) → Type 0
ReadsBack {V = V} reading tree_of always readable = (value : V) → always value → readable value →
    RawParts IsDocumentText (tree_of value) × ReadsAs V reading (text default_options 0 (tree_of value)) value
