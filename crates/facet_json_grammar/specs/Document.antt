-- Documents (RFC 8259, section 2): a prefix of the input's tokens that spells a value, all of whose strings and numbers have a meaning.
use Rattle.std.specs.Prelude.{◌≡◌, List, ℕ, Some}
use Rattle.facet_json_token.specs.Gap.{Mode, plain}
use Rattle.facet_json_token.specs.Tokens.{Tokens, ended}
use Rattle.facet_json_token.specs.TokenList.{tokens}
use Rattle.facet_json_grammar.specs.Node.{Node, Spells}
use Rattle.facet_json_grammar.specs.Tree.{Tree}
use Rattle.facet_json_grammar.specs.Meaning.{tree_of}

-- A prefix of the tokens spells the node, whose tree this is. What follows is not looked at.
pub record Reads (buffer : List ℕ) (ts : Tokens) (root : Node) (value : Tree) (rest : Tokens) : Type 0 where
  pub spells : Spells ts root rest
  pub has_tree : tree_of buffer root ≡ Some value

-- The input has a document, this node, with this tree.
pub record IsDocument (buffer : List ℕ) (mode : Mode) (root : Node) (value : Tree) : Type 0 where
  pub rest : Tokens
  pub reads : Reads buffer (tokens buffer mode) root value rest

-- All of the text is one plain document, with nothing around it but white space.
pub record IsWholeDocument (buffer : List ℕ) (root : Node) (value : Tree) : Type 0 where
  pub reads : Reads buffer (tokens buffer plain) root value ended
