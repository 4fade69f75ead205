-- Bytes that a run of a text goes on through, where none may be less than a bound.
use Rattle.std.specs.Prelude.{◌≡◌, ℕ, Bool, true, not, ◌||◌, nat_lt}
use Rattle.std.proofs.lemmas.Bool.{not-true, not_from_false, or_parts}
use Rattle.facet_json_token.specs.Inner.Window.{is_stop}
use Rattle.facet_json_token.specs.Inner.Ascii.{is_high}

-- a quote, a backslash or less than the bound
abbrev pub is_stop_from : ℕ → ℕ → Bool
is_stop_from least b = is_stop b || nat_lt b least

abbrev pub is_unescaped : ℕ → ℕ → Bool
is_unescaped least b = not (is_stop_from least b)

-- such a byte, or no ASCII
abbrev pub is_mark : ℕ → ℕ → Bool
is_mark least b = is_stop_from least b || is_high b

abbrev pub is_ordinary : ℕ → ℕ → Bool
is_ordinary least b = not (is_mark least b)

-- An ordinary byte may stand in a text unescaped.
pub ordinary-unescaped : (least b : ℕ) → is_ordinary least b ≡ true → is_unescaped least b ≡ true
ordinary-unescaped least b e = not_from_false (is_stop_from least b) (or_parts (is_stop_from least b) (is_high b) (not-true (is_mark least b) e)).0
