-- What writing a tree by a serializer's calls leaves.
use Rattle.std.specs.Prelude.{◌≡◌, ℕ, true, List, Option, Some}
use Rattle.std.specs.Str.{is_utf8}
use Rattle.facet_json_grammar.specs.Text.{Options, default_options}
use Rattle.facet_json_grammar.specs.Tree.{Tree}
use Rattle.facet_json_serializer.specs.Serializer.{Writing}
use Rattle.facet_json_serializer.specs.TreeCalls.{with_tree}
use Rattle.facet_json_grammar.specs.AsRead.{WellFormed, RawParts, IsDocumentText, IsBlankIndent}
use Rattle.facet_json_grammar.specs.ReadBack.{IsReadBack}

-- indented by two spaces, with bytes as arrays
abbrev pub pretty_options : Options
pretty_options = record default_options { pretty = true }

-- The serializer has not run out of memory, and the tree's text was appended, where a value stands.
abbrev pub HasWritten : Option Writing → Tree → Option Writing → Type 0
HasWritten old t new = (w : Writing) × (old ≡ Some w) × (new ≡ Some (with_tree w t))

-- What the types of Rust see to, of raw text too: it is UTF-8.
abbrev pub IsOfRust : Tree → Type 0
IsOfRust t = WellFormed t × RawParts (λ json. is_utf8 json ≡ true) t

-- Where the indent is white space and each raw part is a document, the bytes are one document, whose tree is what the tree reads as.
abbrev pub IsReadable : Options → Tree → List ℕ → Type 0
IsReadable o t bytes = IsBlankIndent o → RawParts IsDocumentText t → IsReadBack o t bytes
