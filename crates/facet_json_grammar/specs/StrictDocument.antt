-- Documents of RFC 8259 alone: all of the text is one, no comma stands before a closing bracket, and strings and numbers are its own.
use Rattle.std.specs.Prelude.{◌≡◌, ℕ, Bool, true, false, List, None}
use Rattle.facet_json_token.specs.Gap.{plain}
use Rattle.facet_json_token.specs.Token.{Kind, Token, object_end, array_end, comma}
use Rattle.facet_json_token.specs.Tokens.{Tokens, ended, refused, next}
use Rattle.facet_json_token.specs.TokenList.{tokens}
use Rattle.facet_json_token.specs.Strict.{strict_fault}
use Rattle.facet_json_grammar.specs.Node.{Node}
use Rattle.facet_json_grammar.specs.Tree.{Tree}
use Rattle.facet_json_grammar.specs.Document.{IsWholeDocument}

abbrev pub is_closing : Kind → Bool
is_closing object_end = true
is_closing array_end = true
is_closing _ = false

-- whether the tokens begin with a closing bracket
abbrev pub begins_closing : Tokens → Bool
begins_closing ended = false
begins_closing (refused f) = false
begins_closing (next t rest) = is_closing t.kind

-- Each string and number is one of RFC 8259, no comma stands before a closing bracket, and after the last token the input ends.
pub data AreStrict (buffer : List ℕ) : Tokens → Type 0 where
  none_left : AreStrict buffer ended
  one_more : (t : Token) (rest : Tokens) → strict_fault buffer t ≡ None → (t.kind ≡ comma → begins_closing rest ≡ false) →
      AreStrict buffer rest → AreStrict buffer (next t rest)

-- All of the text is this document, with this tree.
pub record IsStrictDocument (buffer : List ℕ) (root : Node) (value : Tree) : Type 0 where
  pub whole : IsWholeDocument buffer root value
  pub strict : AreStrict buffer (tokens buffer plain)

-- All of the text is a strict document.
abbrev pub IsStrict : List ℕ → Type 0
IsStrict buffer = (root : Node) × (value : Tree) × IsStrictDocument buffer root value
