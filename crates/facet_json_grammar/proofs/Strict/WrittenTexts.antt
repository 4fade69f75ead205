-- What is written of a tree is a strict document.
use Rattle.std.specs.Prelude.{ℕ, List}
use Rattle.facet_json_grammar.specs.Language.{strict_rules}
use Rattle.facet_json_grammar.specs.Text.{text}
use Rattle.facet_json_grammar.specs.Tree.{Tree}
use Rattle.facet_json_grammar.specs.StrictDocument.{IsStrict}
use Rattle.facet_json_grammar.specs.StrictTexts.{WrittenIsStrict}
use Rattle.facet_json_grammar.proofs.Values.OneValue.{IsOneValue, one_value-document}
use Rattle.facet_json_grammar.proofs.Values.TreeTexts.{tree-text}

-- Bytes that are one value by strict rules are a strict document.
pub one_value-strict : (bytes : List ℕ) (value : Tree) → IsOneValue strict_rules bytes value → IsStrict bytes
one_value-strict bytes value one =
    let document = one_value-document strict_rules bytes value one in
    (document.root, value, record { whole = document.whole; strict = document.fits })

-- Where the indent is white space, decimals are numbers of RFC 8259 and raw parts are strict documents, the text of a tree is a strict document.
pub written_is_strict : WrittenIsStrict
written_is_strict o t blank w d r =
    let whole = tree-text strict_rules o blank 0 t w d r in one_value-strict (text o 0 t) whole.value whole.one
