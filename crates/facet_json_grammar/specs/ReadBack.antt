-- What was written is readable. Each law is the contract of a function of the module `laws`.
use Rattle.std.specs.Prelude.{◌≡◌, ℕ, true, List}
use Rattle.std.specs.List.{flat_map}
use Rattle.std.specs.Str.{is_utf8}
use Rattle.facet_json_token.specs.Decode.{Decodes}
use Rattle.facet_json_grammar.specs.Document.{IsWholeDocument}
use Rattle.facet_json_grammar.specs.Node.{Node}
use Rattle.facet_json_grammar.specs.Quoted.{escaped}
use Rattle.facet_json_grammar.specs.Text.{BytesFormat, Options, text}
use Rattle.facet_json_grammar.specs.Tree.{Tree}
use Rattle.facet_json_grammar.specs.AsRead.{ReadsAs, WellFormed, RawParts, IsDocumentText, IsBlankIndent}

-- What stands between the quotes of a written text decodes to this text, and to no other.
abbrev pub QuotedDecodesAlone : Type 0
QuotedDecodesAlone = (t : List ℕ) → is_utf8 t ≡ true →
    Decodes (flat_map escaped t) t × ((u : List ℕ) → Decodes (flat_map escaped t) u → u ≡ t)

-- The text is one document, whose tree is what the tree reads as.
pub record IsReadBack (o : Options) (t : Tree) (bytes : List ℕ) : Type 0 where
  pub root : Node
  pub value : Tree
  pub document : IsWholeDocument bytes root value
  pub as_read : ReadsAs o.bytes_format t value

-- Where the indent is white space and each raw part is a document, the text of a tree is one document, which is read as the tree reads.
abbrev pub WrittenIsRead : Type 0
WrittenIsRead = (o : Options) (t : Tree) → IsBlankIndent o → WellFormed t → RawParts IsDocumentText t → IsReadBack o t (text o 0 t)

-- A tree reads as one tree alone. It depends on the format of bytes, and neither on the indent nor on the layout.
abbrev pub OneReading : Type 0
OneReading = (format : BytesFormat) (t value other : Tree) → ReadsAs format t value → ReadsAs format t other → value ≡ other

-- The same tree is read whether or not the text is indented, and whatever the indent.
abbrev pub IndentIsNotRead : Type 0
IndentIsNotRead = (o p : Options) (t value other : Tree) (root node : Node) → o.bytes_format ≡ p.bytes_format → IsBlankIndent o →
    IsBlankIndent p → WellFormed t → RawParts IsDocumentText t → IsWholeDocument (text o 0 t) root value →
    IsWholeDocument (text p 0 t) node other → value ≡ other
