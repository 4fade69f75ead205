-- What was written is a text of RFC 8259. Each law is the contract of a function of the module `laws`.
use Rattle.std.specs.Prelude.{◌≡◌, ℕ, true, List}
use Rattle.std.specs.Str.{is_utf8}
use Rattle.facet_json_grammar.specs.Quoted.{quoted}
use Rattle.facet_json_grammar.specs.Text.{Options, text}
use Rattle.facet_json_grammar.specs.Tree.{Tree, null, unit, bool, char, i64, u64, i128, u128, bytes, raw, list, pairs, Trees, no_trees, tree, Pairs, no_pairs, pair}
use Rattle.facet_json_grammar.specs.Tree as trees
use Rattle.facet_json_grammar.specs.AsRead.{WellFormed, RawParts, IsBlankIndent}
use Rattle.facet_json_grammar.specs.RfcText.{InUtf8, IsRfcString, IsRfcText}
use Rattle.facet_json_token.specs.RfcNumber.{IsRfcNumber}

unfoldable mutual
  -- All decimals in the tree are such.
  pub DecimalParts : (List ℕ → Type 0) → Tree → Type 0
  DecimalParts P (trees.decimal t) = P t
  DecimalParts P (list items) = DecimalItems P items
  DecimalParts P (pairs members) = DecimalMembers P members
  DecimalParts P null = Unit {0}
  DecimalParts P unit = Unit {0}
  DecimalParts P (bool b) = Unit {0}
  DecimalParts P (char c) = Unit {0}
  DecimalParts P (i64 n) = Unit {0}
  DecimalParts P (u64 n) = Unit {0}
  DecimalParts P (i128 n) = Unit {0}
  DecimalParts P (u128 n) = Unit {0}
  DecimalParts P (trees.text t) = Unit {0}
  DecimalParts P (bytes b) = Unit {0}
  DecimalParts P (raw t) = Unit {0}

  pub DecimalItems : (List ℕ → Type 0) → Trees → Type 0
  DecimalItems P no_trees = Unit {0}
  DecimalItems P (tree t items) = DecimalParts P t × DecimalItems P items

  pub DecimalMembers : (List ℕ → Type 0) → Pairs → Type 0
  DecimalMembers P no_pairs = Unit {0}
  DecimalMembers P (pair key t members) = DecimalParts P t × DecimalMembers P members

-- A text in UTF-8 is quoted as a string.
abbrev pub QuotedIsRfc : Type 0
QuotedIsRfc = (t : List ℕ) → is_utf8 t ≡ true → InUtf8 IsRfcString (quoted t)

-- Where the indent is white space, decimals are numbers of RFC 8259 and raw parts are texts of it, the text of a tree is one text.
abbrev pub WrittenIsRfc : Type 0
WrittenIsRfc = (o : Options) (t : Tree) → IsBlankIndent o → WellFormed t → DecimalParts (InUtf8 IsRfcNumber) t →
    RawParts (InUtf8 IsRfcText) t → InUtf8 IsRfcText (text o 0 t)
