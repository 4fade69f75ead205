-- How many tokens there are.
use Rattle.std.specs.Prelude.{ℕ, suc}
use Rattle.facet_json_token.specs.Tokens.{Tokens, ended, refused, next}

-- how many tokens there are
abbrev pub count : Tokens → ℕ
count ended = 0
count (refused f) = 0
count (next t rest) = suc (count rest)
