-- How deep the brackets of an input's first value stand within one another, whether the input has a document or not (RFC 8259, section 9, lets
-- a reader set a limit).
use Rattle.std.specs.Prelude.{◌≡◌, ◌≤◌, ◌<◌, ◌+◌, ℕ, List, [], ◌∷◌, ◌++◌, Option, None, Some, ◌↔◌}
use Rattle.facet_format.specs.Span.{Span}
use Rattle.facet_json_token.specs.Gap.{Mode}
use Rattle.facet_json_token.specs.Token.{Kind, Token, object_start, object_end, array_start, array_end}
use Rattle.facet_json_token.specs.Tokens.{Tokens, next}
use Rattle.facet_json_token.specs.TokenList.{tokens}
use Rattle.facet_json_grammar.specs.Begun.{tokens_before}
use Rattle.facet_json_grammar.specs.Document.{IsDocument}
use Rattle.facet_json_grammar.specs.Node.{Node}
use Rattle.facet_json_grammar.specs.Tree.{Tree}
use Rattle.facet_json_tree.specs.Depth.{first_beyond}

-- What a token does to brackets; which of the two kinds it is does not matter.
pub data Bracket : Type 0 where
  opens : Bracket
  closes : Bracket
  neither : Bracket

abbrev pub bracket_of : Kind → Bracket
bracket_of object_start = opens
bracket_of array_start = opens
bracket_of object_end = closes
bracket_of array_end = closes
bracket_of _ = neither

abbrev pub opening : Bracket → ℕ
opening opens = 1
opening _ = 0

abbrev pub closing : Bracket → ℕ
closing closes = 1
closing _ = 0

-- how many opening brackets are among the tokens
abbrev pub openings : List Token → ℕ
openings [] = 0
openings (t ∷ ts) = opening (bracket_of t.kind) + openings ts

-- how many closing ones
abbrev pub closings : List Token → ℕ
closings [] = 0
closings (t ∷ ts) = closing (bracket_of t.kind) + closings ts

-- Among the tokens there is an opening bracket, at this span.
pub record OpensAt (ts : Tokens) (span : Span) : Type 0 where
  pub before : List Token
  pub bracket : Token
  pub rest : Tokens
  pub comes : ts ≡ tokens_before before (next bracket rest)
  pub there : bracket.span ≡ span
  pub is_opening : bracket_of bracket.kind ≡ opens

-- There is one with so many others around it, and it is the first: before it no more are open anywhere, and from the first token on at least one
-- is, so that it belongs to the value that begins there.
pub record StandsBeyond (limit : ℕ) (ts : Tokens) (span : Span) : Type 0 where
  pub here : OpensAt ts span
  pub around : openings here.before ≡ closings here.before + limit
  pub first : (front back : List Token) → here.before ≡ front ++ back → openings front ≤ closings front + limit
  pub within : (t : Token) (front back : List Token) → here.before ≡ (t ∷ front) ++ back → closings (t ∷ front) < openings (t ∷ front)

-- The same where there may be no limit.
abbrev pub IsBeyond : Option ℕ → Tokens → Span → Type 0
IsBeyond None ts span = ⊥
IsBeyond (Some limit) ts span = StandsBeyond limit ts span

-- Of a document it is the value's first bracket with so many around it.
abbrev pub BeyondInDocument : Type 0
BeyondInDocument = (input : List ℕ) (mode : Mode) (root : Node) (value : Tree) (limit : ℕ) (span : Span) → IsDocument input mode root value →
    (first_beyond limit root ≡ Some span) ↔ StandsBeyond limit (tokens input mode) span
