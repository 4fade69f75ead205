-- Trees that come back from their text, and the trees of documents. Each law is the contract of a function of the module `laws`.
use Rattle.std.specs.Prelude.{ℕ, List, pos, negsuc}
use Rattle.facet_json_token.specs.Gap.{Mode}
use Rattle.facet_json_grammar.specs.Document.{IsDocument, IsWholeDocument}
use Rattle.facet_json_grammar.specs.Node.{Node}
use Rattle.facet_json_grammar.specs.Text.{BytesFormat, as_array, Options, text}
use Rattle.facet_json_grammar.specs.Tree.{Tree, null, unit, bool, char, i64, u64, i128, u128, bytes, raw, list, pairs, Trees, no_trees, tree, Pairs, no_pairs, pair}
use Rattle.facet_json_grammar.specs.Tree as trees
use Rattle.facet_json_grammar.specs.AsRead.{WellFormed, RawParts, ReadsAs, IsBlankIndent}

-- The tree comes back from its text: it reads as itself. So do null, truth values, numbers without a sign of 64 bits, negative ones of 63 bits
-- beside their sign, decimals, texts, and lists and objects of such trees. A number of 64 bits with a sign that is not negative does not,
-- since it reads as one without a sign; and neither do unit, characters, numbers of 128 bits, bytes and raw text, which read as trees of
-- other kinds.
abbrev pub IsReadableTree : Tree → Type 0
IsReadableTree t = ReadsAs as_array t t

-- ---- the trees of documents

unfoldable mutual
  -- The tree whose numbers that are not negative have no sign. In a document's tree only `-0` has one, which is a number with a sign; it is
  -- written `0`, which is one without.
  pub without_plus : Tree → Tree
  without_plus (i64 (pos n)) = u64 n
  without_plus (i64 (negsuc n)) = i64 (negsuc n)
  without_plus (list items) = list (items_without_plus items)
  without_plus (pairs members) = pairs (members_without_plus members)
  without_plus null = null
  without_plus unit = unit
  without_plus (bool b) = bool b
  without_plus (char c) = char c
  without_plus (u64 n) = u64 n
  without_plus (i128 n) = i128 n
  without_plus (u128 n) = u128 n
  without_plus (trees.decimal t) = trees.decimal t
  without_plus (trees.text t) = trees.text t
  without_plus (bytes b) = bytes b
  without_plus (raw t) = raw t

  pub items_without_plus : Trees → Trees
  items_without_plus no_trees = no_trees
  items_without_plus (tree t items) = tree (without_plus t) (items_without_plus items)

  pub members_without_plus : Pairs → Pairs
  members_without_plus no_pairs = no_pairs
  members_without_plus (pair key t members) = pair key (without_plus t) (members_without_plus members)

-- The tree is one of Rust, has no raw text, and reads as itself, its zeros without a sign; and that reads as itself.
pub record IsReadAgain (t : Tree) : Type 0 where
  pub of_rust : WellFormed t
  pub no_raw : RawParts (λ json. ⊥) t
  pub as_read : (format : BytesFormat) → ReadsAs format t (without_plus t)
  pub from_then_on : (format : BytesFormat) → ReadsAs format (without_plus t) (without_plus t)

-- So is the tree of each document.
abbrev pub DocumentIsReadable : Type 0
DocumentIsReadable = (input : List ℕ) (mode : Mode) (root : Node) (t : Tree) → IsDocument input mode root t → IsReadAgain t

-- What is written of a document's tree, where the indent is white space, is one document, whose tree is the same, its zeros without a sign.
abbrev pub DocumentComesBack : Type 0
DocumentComesBack = (input : List ℕ) (mode : Mode) (root : Node) (t : Tree) (o : Options) → IsDocument input mode root t → IsBlankIndent o →
    (node : Node) × IsWholeDocument (text o 0 t) node (without_plus t)
