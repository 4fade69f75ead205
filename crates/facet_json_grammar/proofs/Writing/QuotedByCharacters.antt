-- A text is written character by character: what `quoted` of specs/Quoted.antt gives at UTF-8.
use Rattle.std.proofs.Common.{◌≡◌, ℕ, ◌+◌, ◌/◌, ◌≤◌, List, [], ◌∷◌, ◌++◌, flat_map, append-nil, refl, ap, ◌∙◌, arith}
use Rattle.std.specs.Char.{encode_utf8}
use Rattle.std.specs.Str.{encode_utf8_all}
use Rattle.std.proofs.lemmas.Grind.{flat_map-append}
use Rattle.std.proofs.lemmas.Bool.{lt-ltb, le-ltb}
use Rattle.facet_format.specs.Bytes.{quote}
use Rattle.facet_json_grammar.specs.Quoted.{escaped}
use Rattle.facet_json_grammar.specs.TextLaws.{escaped_character, QuotedByCharacters}
use Rattle.facet_json_token.proofs.CharAt.{Shape, one, two, three, four, shape, next}

-- A byte past ASCII is written as it is.
escaped-past_ascii : (b : ℕ) → 128 ≤ b → escaped b ≡ b ∷ []
unfolding escaped
escaped-past_ascii b h = grind arith

escaped-next : (bits : ℕ) → escaped (next bits) ≡ next bits ∷ []
escaped-next bits = escaped-past_ascii (next bits) (omega arith)

-- A character is written as an escape or as its UTF-8.
escaped-character : (c : ℕ) → flat_map escaped (encode_utf8 c) ≡ escaped_character c
escaped-character c = by (shape c)
  where
    by : Shape c → flat_map escaped (encode_utf8 c) ≡ escaped_character c
    by (one h e) = simp (e, lt-ltb c 0x80 h, append-nil {A = ℕ} (escaped c))
    by (two l h e) =
        let first = escaped-past_ascii (192 + c / 64) (omega arith) in
        simp (e, le-ltb c 0x80 (omega arith), first, escaped-next c)
    by (three l h e) =
        let first = escaped-past_ascii (224 + c / 4096) (omega arith) in
        simp (e, le-ltb c 0x80 (omega arith), first, escaped-next (c / 64), escaped-next c)
    by (four l e) =
        let first = escaped-past_ascii (240 + c / 262144) (omega arith) in
        simp (e, le-ltb c 0x80 (omega arith), first, escaped-next (c / 4096), escaped-next (c / 64), escaped-next c)

-- The characters of a text are written one after another.
pub escaped-characters : (cs : List ℕ) → flat_map escaped (encode_utf8_all cs) ≡ flat_map escaped_character cs
escaped-characters [] = refl
escaped-characters (c ∷ cs) =
    flat_map-append escaped (encode_utf8 c) (encode_utf8_all cs)
    ∙ ap (λ l. l ++ flat_map escaped (encode_utf8_all cs)) (escaped-character c)
    ∙ ap (λ l. escaped_character c ++ l) (escaped-characters cs)

-- A text is written character by character.
pub quoted_by_characters : QuotedByCharacters
quoted_by_characters characters are = ap (λ l. quote ∷ l ++ quote ∷ []) (escaped-characters characters)
