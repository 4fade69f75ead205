-- What the definitions mean, in the subject's own words. Each law is the contract of a function of the module `laws`.
use Rattle.std.specs.Prelude.{◌≡◌, ℕ, true, cond, nat_lt, List, [], ◌∷◌, ◌++◌}
use Rattle.std.specs.List.{flat_map}
use Rattle.std.specs.Char.{encode_utf8}
use Rattle.std.specs.Str.{all_scalars, encode_utf8_all}
use Rattle.facet_format.specs.Bytes.{quote}
use Rattle.facet_json_grammar.specs.Quoted.{escaped, quoted}

-- one character as it is written: an escape of an ASCII character, or its UTF-8
abbrev pub escaped_character : ℕ → List ℕ
escaped_character c = cond (nat_lt c 0x80) (escaped c) (encode_utf8 c)

-- A text is written character by character.
abbrev pub QuotedByCharacters : Type 0
QuotedByCharacters = (characters : List ℕ) → all_scalars characters ≡ true → quoted (encode_utf8_all characters) ≡ quote ∷ flat_map escaped_character characters
    ++ quote ∷ []
