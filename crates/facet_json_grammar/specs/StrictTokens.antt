-- The tokens of a language: where it is RFC 8259 alone, a string or a number that this has not is a fault.
use Rattle.std.specs.Prelude.{◌≡◌, ℕ, List, Some, None}
use Rattle.facet_json_token.specs.Cut.{Cut, nothing_left, token, fault, cut}
use Rattle.facet_json_token.specs.Token.{Token}
use Rattle.facet_json_token.specs.Tokens.{Tokens, ended, refused, next}
use Rattle.facet_json_token.specs.TokenList.{tokens_from}
use Rattle.facet_json_token.specs.Strict.{strict_fault}
use Rattle.facet_json_grammar.specs.Language.{Language, lenient, strict}

-- the same tokens, up to the first string or number that RFC 8259 has not
unfoldable pub strict_tokens : List ℕ → Tokens → Tokens
strict_tokens buffer ended = ended
strict_tokens buffer (refused f) = refused f
strict_tokens buffer (next t rest) = elim (strict_fault buffer t) [ None ↦ next t (strict_tokens buffer rest) | Some f ↦ refused f ]

-- the tokens of the language from a position on
abbrev pub tokens_in : Language → List ℕ → ℕ → Tokens
tokens_in (lenient mode) buffer position = tokens_from buffer mode position
tokens_in (strict mode) buffer position = strict_tokens buffer (tokens_from buffer mode position)

-- ---- what is cut

-- what is cut of a language that is RFC 8259 alone
abbrev pub strict_cut : List ℕ → Cut → Cut
strict_cut buffer nothing_left = nothing_left
strict_cut buffer (fault f) = fault f
strict_cut buffer (token t) = elim (strict_fault buffer t) [ None ↦ token t | Some f ↦ fault f ]

-- what is cut of the language at a position
abbrev pub cut_in : Language → List ℕ → ℕ → Cut
cut_in (lenient mode) buffer position = cut buffer position mode
cut_in (strict mode) buffer position = strict_cut buffer (cut buffer position mode)

-- The language has the token, as far as it is told before it is decoded.
abbrev pub Allows : Language → List ℕ → Token → Type 0
Allows (lenient mode) buffer t = Unit {0}
Allows (strict mode) buffer t = strict_fault buffer t ≡ None
