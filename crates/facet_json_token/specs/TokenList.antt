-- The list of all tokens of an input, computed.
use Rattle.std.specs.Prelude.{ℕ, zero, suc, ◌-◌, List, [], ◌∷◌, drop}
use Rattle.facet_json_token.specs.Gap.{Mode}
use Rattle.facet_format.specs.Span.{stop}
use Rattle.facet_json_token.specs.Cut.{nothing_left, token, fault, cut}
use Rattle.facet_json_token.specs.Tokens.{Tokens, ended, refused, next}

-- The tokens of the buffer, of which these bytes are left at offset `at`, after the next `inside` of them, which belong to
-- the token before.
unfoldable pub tokens_past : List ℕ → Mode → ℕ → ℕ → List ℕ → Tokens
tokens_past buffer mode inside at [] = ended
tokens_past buffer mode (suc inside) at (b ∷ left) = tokens_past buffer mode inside (suc at) left
tokens_past buffer mode zero at (b ∷ left) =
    elim (cut buffer at mode) [ nothing_left ↦ ended | fault f ↦ refused f | token t ↦ next t (tokens_past buffer mode (stop t.span - suc at) (suc at) left) ]

-- the tokens from a position on
abbrev pub tokens_from : List ℕ → Mode → ℕ → Tokens
tokens_from buffer mode position = tokens_past buffer mode 0 position (drop position buffer)

-- the tokens of the input
abbrev pub tokens : List ℕ → Mode → Tokens
tokens buffer mode = tokens_from buffer mode 0
