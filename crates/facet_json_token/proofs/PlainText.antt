-- Runs of bytes without a backslash: where such a run is UTF-8 it stands for itself, before a backslash or at the
-- end, and elsewhere for nothing.
use Rattle.std.proofs.Common.{◌≡◌, ℕ, ◌<◌, true, false, List, [], ◌∷◌, ◌++◌, length, get_or, Option, Some, None, option_map, refl, sym, ap, ◌∙◌, append_assoc, append-nil, arith}
use Rattle.std.specs.Prelude.{◌==◌, IsUtf8}
use Rattle.std.specs.List.{list_any}
use Rattle.std.specs.Char.{encode_utf8}
use Rattle.std.specs.Str.{all_scalars, encode_utf8_all}
use Rattle.std.proofs.Math.Utf8.{scalar}
use Rattle.std.proofs.lemmas.Bool.{ne_eqb, and_parts, or_parts}
use Rattle.std.proofs.lemmas.List.Folds.{list_any-append}
use Rattle.std.proofs.lemmas.Str.{IsUtf8-nil, IsUtf8-append, IsUtf8-encode, encode_ascii}
use Rattle.facet_format.specs.Bytes.{backslash}
use Rattle.facet_json_token.specs.Decode.{Piece, itself, short, other, unit, pair, Decodes, empty, piece}
use Rattle.facet_json_token.specs.Decoded.{decoded_past, decoded}
use Rattle.facet_json_token.proofs.CharAt.{Shape, one, two, three, four, shape}
use Rattle.facet_json_token.proofs.DecodeLaws.{decodes-decoded, decoded-piece}

-- no byte is a backslash
abbrev pub IsPlain : List ℕ → Type 0
IsPlain content = list_any (λ b. b == backslash) content ≡ false

-- Neither part of plain bytes holds a backslash.
pub plain-parts : (a b : List ℕ) → IsPlain (a ++ b) → IsPlain a × IsPlain b
plain-parts a b plain =
    let both = sym (list_any-append (λ x. x == backslash) a b) ∙ plain in
    or_parts (list_any (λ x. x == backslash) a) (list_any (λ x. x == backslash) b) both

-- No character of plain bytes is a backslash.
plain-other : (c : ℕ) → IsPlain (encode_utf8 c) → (c == backslash) ≡ false
plain-other c plain =
    ne_eqb c backslash (λ (at : c ≡ backslash).
    let own = encode_ascii backslash (omega arith) in
    let same : list_any (λ b. b == backslash) (encode_utf8 c) ≡ true = rw (at, own) refl in
    cc)

-- a text with this in front, where there is one
abbrev pub prefixed : List ℕ → Option (List ℕ) → Option (List ℕ)
prefixed front o = option_map (λ t. front ++ t) o

-- Nothing in front leaves a text.
prefixed-nothing : (o : Option (List ℕ)) → o ≡ prefixed [] o
prefixed-nothing None = refl
prefixed-nothing (Some t) = refl

-- Two prefixes are one.
pub prefixed-prefixed : (a b : List ℕ) (o : Option (List ℕ)) → prefixed a (prefixed b o) ≡ prefixed (a ++ b) o
prefixed-prefixed a b None = refl
prefixed-prefixed a b (Some t) = ap Some (sym (append_assoc a b t))

-- ---- a run that is text

-- The characters of a plain run stand before the text of what follows.
decoded-characters : (cs rest : List ℕ) → all_scalars cs ≡ true → IsPlain (encode_utf8_all cs) →
    decoded (encode_utf8_all cs ++ rest) ≡ prefixed (encode_utf8_all cs) (decoded rest)
decoded-characters [] rest are plain = prefixed-nothing (decoded rest)
decoded-characters (c ∷ cs) rest are plain =
    let is = and_parts (scalar c) (all_scalars cs) are in
    let parts = plain-parts (encode_utf8 c) (encode_utf8_all cs) plain in
    let first = itself c is.0 (plain-other c parts.0) in
    ap decoded (append_assoc (encode_utf8 c) (encode_utf8_all cs) rest)
    ∙ decoded-piece (encode_utf8 c) (encode_utf8_all cs ++ rest) c first
    ∙ ap (prefixed (encode_utf8 c)) (decoded-characters cs rest is.1 parts.1)
    ∙ prefixed-prefixed (encode_utf8 c) (encode_utf8_all cs) (decoded rest)

-- A plain run of text stands before the text of what follows.
pub decoded-run : (run rest : List ℕ) → IsPlain run → IsUtf8 run → decoded (run ++ rest) ≡ prefixed run (decoded rest)
decoded-run run rest plain is =
    let own = decoded-characters is.0 rest is.1.0 (rw is.1.1 plain) in
    rw is.1.1 at own

-- Plain text stands for itself.
pub decoded-plain : (content : List ℕ) → IsPlain content → IsUtf8 content → decoded content ≡ Some content
unfolding decoded_past
decoded-plain content plain is =
    ap decoded (sym (append-nil content)) ∙ decoded-run content [] plain is ∙ ap Some (append-nil content)

-- ---- a run that is no text

-- The UTF-8 of a character other than a backslash is plain.
encoded-plain : (c : ℕ) → (c == backslash) ≡ false → IsPlain (encode_utf8 c)
encoded-plain c ne = by (shape c)
  where
    by : Shape c → IsPlain (encode_utf8 c)
    by (one h s) = rw s (grind arith)
    by (two l h s) = rw s (grind arith)
    by (three l h s) = rw s (grind arith)
    by (four l s) = rw s (grind arith)

-- Two ways to cut a list: one prefix is a prefix of the other.
pub data Cuts (a b c d : List ℕ) : Type 0 where
  first_in_second : (m : List ℕ) → c ≡ a ++ m → b ≡ m ++ d → Cuts a b c d
  second_in_first : (x : ℕ) (m : List ℕ) → a ≡ c ++ x ∷ m → d ≡ (x ∷ m) ++ b → Cuts a b c d

pub cuts : (a b c d : List ℕ) → a ++ b ≡ c ++ d → Cuts a b c d
cuts [] b c d e = first_in_second c refl e
cuts (x ∷ a) b [] d e = second_in_first x a refl (sym e)
cuts (x ∷ a) b (y ∷ c) d e =
    let same : x ≡ y = cc in
    let rest : a ++ b ≡ c ++ d = cc in
    by same (cuts a b c d rest)
  where
    by : x ≡ y → Cuts a b c d → Cuts (x ∷ a) b (y ∷ c) d
    by same (first_in_second m p q) = first_in_second m (rw (same, p) refl) q
    by same (second_in_first z m p q) = second_in_first z m (rw (same, p) refl) q

-- A backslash is no part of plain bytes.
pub not-plain : (c : ℕ) (run m : List ℕ) (x : ℕ) → (c == backslash) ≡ false → encode_utf8 c ≡ run ++ x ∷ m →
    x ≡ backslash → ⊥
not-plain c run m x ne e is =
    let whole = rw e at (encoded-plain c ne) in
    let parts = plain-parts run (x ∷ m) whole in
    let last = rw is at parts.1 in
    cc

-- what may stand after a run of plain bytes: nothing, or a backslash
abbrev pub EndsRun : List ℕ → Type 0
EndsRun rest = 0 < length rest → get_or rest 0 0 ≡ backslash

-- What stands after an empty prefix.
empty-front : (run rest : List ℕ) → [] ≡ run ++ rest → run ≡ []
empty-front [] rest e = refl
empty-front (b ∷ run) rest e = cc

-- A plain run whose bytes after the first piece are text is text.
run-piece : (first others : List ℕ) (c b : ℕ) (run rest : List ℕ) → Piece first c →
    ((m : List ℕ) → others ≡ m ++ rest → IsPlain m → IsUtf8 m) → first ++ others ≡ (b ∷ run) ++ rest →
    IsPlain (b ∷ run) → EndsRun rest → IsUtf8 (b ∷ run)
run-piece _ others c b run rest (itself _ is ne) later e plain ends = by (cuts (encode_utf8 c) others (b ∷ run) rest e)
  where
    by : Cuts (encode_utf8 c) others (b ∷ run) rest → IsUtf8 (b ∷ run)
    by (first_in_second m p q) =
        let whole : IsPlain (encode_utf8 c ++ m) = ap (list_any (λ x. x == backslash)) (sym p) ∙ plain in
        let parts = plain-parts (encode_utf8 c) m whole in
        rw p (IsUtf8-append (encode_utf8 c) m (IsUtf8-encode c is) (later m q parts.1))
    by (second_in_first x m p q) =
        let first = rw q at ends in
        absurd (not-plain c (b ∷ run) m x ne p (first (omega arith)))
run-piece _ others v b run rest (short d _ is) later e plain ends = cc
run-piece _ others c b run rest (other d ascii none ne) later e plain ends = cc
run-piece _ others v b run rest (unit h i j k u is high low) later e plain ends = cc
run-piece _ others v b run rest (pair h i j k high s t x y low p q m n) later e plain ends = cc

-- A plain run before nothing or a backslash is text, where the whole has a text.
run-text : (content text run rest : List ℕ) → Decodes content text → content ≡ run ++ rest → IsPlain run →
    EndsRun rest → IsUtf8 run
run-text _ _ run rest empty e plain ends = rw (empty-front run rest e) IsUtf8-nil
run-text _ _ [] rest (piece first others content c later text is behind f g) e plain ends = IsUtf8-nil
run-text _ _ (b ∷ run) rest (piece first others content c later text is behind f g) e plain ends =
    let next = λ (m : List ℕ) (q : others ≡ m ++ rest) (p : IsPlain m). run-text others later m rest behind q p ends in
    run-piece first others c b run rest is next (sym f ∙ e) plain ends

-- A plain run that is no text stands for nothing, whatever the text of what follows.
pub decoded-broken : (run rest : List ℕ) → IsPlain run → (IsUtf8 run → ⊥) → EndsRun rest → decoded (run ++ rest) ≡ None
decoded-broken run rest plain none ends = by (decoded (run ++ rest)) refl
  where
    by : (o : Option (List ℕ)) → decoded (run ++ rest) ≡ o → o ≡ None
    by None is = refl
    by (Some text) is =
        absurd (none (run-text (run ++ rest) text run rest (decodes-decoded (run ++ rest) text is) refl plain ends))

-- Plain bytes that are no text stand for nothing.
pub decoded-plain_none : (content : List ℕ) → IsPlain content → (IsUtf8 content → ⊥) → decoded content ≡ None
decoded-plain_none content plain none =
    ap decoded (sym (append-nil content)) ∙ decoded-broken content [] plain none (λ some. absurd (omega arith))
