-- What the definitions mean, in the subject's own words. Each law is the contract of a function of the module `laws`.
use Rattle.std.specs.Prelude.{◌≡◌, ℕ, List}
use Rattle.facet_json_token.specs.Gap.{Mode, plain, jsonc}
use Rattle.facet_json_grammar.specs.Node.{Node, Spells}
use Rattle.facet_json_token.specs.Tokens.{Tokens}
use Rattle.facet_json_grammar.specs.Tree.{Tree}
use Rattle.facet_json_grammar.specs.Document.{IsDocument}

-- No spelling of a value is a proper prefix of another's, and tokens spell one value at most.
abbrev pub OneSpelling : Type 0
OneSpelling = (ts r s : Tokens) (a b : Node) → Spells ts a r → Spells ts b s → (a ≡ b) × (r ≡ s)

-- An input has at most one document.
abbrev pub OneDocument : Type 0
OneDocument = (buffer : List ℕ) (mode : Mode) (a b : Node) (v w : Tree) → IsDocument buffer mode a v → IsDocument buffer mode b w → (a ≡ b)
    × (v ≡ w)

-- A plain document is the same JSONC document.
abbrev pub PlainIsJsonc : Type 0
PlainIsJsonc = (buffer : List ℕ) (root : Node) (value : Tree) → IsDocument buffer plain root value → IsDocument buffer jsonc root value
