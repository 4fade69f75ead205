-- Documents of RFC 8259 alone and its grammar. Each law is the contract of a function of the module `laws`.
use Rattle.std.specs.Prelude.{ℕ, List}
use Rattle.facet_json_grammar.specs.Tree.{Tree}
pub use Rattle.facet_json_grammar.specs.StrictDocument.{IsStrict}
use Rattle.facet_json_grammar.specs.Text.{Options, text}
use Rattle.facet_json_grammar.specs.AsRead.{WellFormed, RawParts, IsBlankIndent}
use Rattle.facet_json_grammar.specs.RfcLaws.{DecimalParts}
use Rattle.facet_json_grammar.specs.RfcReadable.{IsReadableText}
use Rattle.facet_json_grammar.specs.RfcText.{InUtf8, IsRfcText}
use Rattle.facet_json_token.specs.RfcNumber.{IsRfcNumber}

-- The strict documents are the texts of RFC 8259, in UTF-8, whose strings have a text and whose whole numbers lie within 128 bits.
abbrev pub StrictIsRfc : Type 0
StrictIsRfc = (buffer : List ℕ) → (IsStrict buffer → InUtf8 IsReadableText buffer) × (InUtf8 IsReadableText buffer → IsStrict buffer)

-- Each of them is a text of RFC 8259.
abbrev pub ReadableIsRfc : Type 0
ReadableIsRfc = (buffer : List ℕ) → InUtf8 IsReadableText buffer → InUtf8 IsRfcText buffer

-- Where the indent is white space, decimals are numbers of RFC 8259 and raw parts are strict documents, the text of a tree is a strict document.
abbrev pub WrittenIsStrict : Type 0
WrittenIsStrict = (o : Options) (t : Tree) → IsBlankIndent o → WellFormed t → DecimalParts (InUtf8 IsRfcNumber) t →
    RawParts IsStrict t → IsStrict (text o 0 t)
