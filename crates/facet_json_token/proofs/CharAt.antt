-- The character whose UTF-8 stands at the start of some bytes: what `utf8_at` of specs/Decode.antt finds.
use Rattle.std.proofs.Common.{◌≡◌, ℕ, suc, ◌+◌, ◌/◌, ◌%◌, ◌<◌, ◌≤◌, ◌⊎◌, inl, inr, Bool, true, false, cond, ◌&&◌, List, [], ◌∷◌, ◌++◌, length, take, Option, Some, None, bytes_eq, refl, ap, ◌∙◌, arith}
use Rattle.std.specs.Prelude.{◌==◌}
use Rattle.std.specs.Char.{IsScalar, encode_utf8}
use Rattle.std.specs.Str.{continuation_len, lead_bits}
use Rattle.std.proofs.Math.Utf8.{scalar}
use Rattle.std.proofs.lemmas.Bool.{cases_lt, and_parts, and_from, lt-ltb, le-ltb}
use Rattle.std.proofs.lemmas.List.{length-take}
use Rattle.std.proofs.lemmas.Slice.Eq.{bytes_eq-Decides}
use Rattle.facet_format.specs.Bytes.{backslash}
use Rattle.facet_json_token.specs.Decoded.{continued, if_encoded, utf8_at}

-- a byte that goes on with a character, with the low bits of this number
abbrev pub next : ℕ → ℕ
next bits = 128 + bits % 64

-- the four lengths of a character's UTF-8
pub data Shape (c : ℕ) : Type 0 where
  one : c < 128 → encode_utf8 c ≡ c ∷ [] → Shape c
  two : 128 ≤ c → c < 2048 → encode_utf8 c ≡ (192 + c / 64) ∷ next c ∷ [] → Shape c
  three : 2048 ≤ c → c < 65536 → encode_utf8 c ≡ (224 + c / 4096) ∷ next (c / 64) ∷ next c ∷ [] → Shape c
  four : 65536 ≤ c → encode_utf8 c ≡ (240 + c / 262144) ∷ next (c / 4096) ∷ next (c / 64) ∷ next c ∷ [] → Shape c

-- Each character has one of them.
pub shape : (c : ℕ) → Shape c
unfolding encode_utf8
shape c = by (cases_lt c 128) (cases_lt c 2048) (cases_lt c 65536)
  where
    by : (c < 128) ⊎ (128 ≤ c) → (c < 2048) ⊎ (2048 ≤ c) → (c < 65536) ⊎ (65536 ≤ c) → Shape c
    by (inl h) _ _ = one h (simp (lt-ltb c 128 h))
    by (inr a) (inl h) _ = two a h (simp (le-ltb c 128 a, lt-ltb c 2048 h))
    by (inr a) (inr b) (inl h) = three b h (simp (le-ltb c 128 a, le-ltb c 2048 b, lt-ltb c 65536 h))
    by (inr a) (inr b) (inr h) = four h (simp (le-ltb c 128 a, le-ltb c 2048 b, le-ltb c 65536 h))

-- a first byte whose continuation makes up a character
utf8_at-led : (b n c : ℕ) (bytes : List ℕ) → continuation_len b ≡ n →
    continued (lead_bits b) (take n bytes) ≡ c → IsScalar c → encode_utf8 c ≡ b ∷ take n bytes →
    utf8_at (b ∷ bytes) ≡ Some (c, suc n)
unfolding utf8_at
utf8_at-led b n c bytes len value is e =
    let same = (bytes_eq-Decides (encode_utf8 c) (b ∷ take n bytes)).1 e in
    ap (λ k. if_encoded (continued (lead_bits b) (take k bytes)) (suc k) (b ∷ bytes)) len
    ∙ ap (λ k. if_encoded k (suc n) (b ∷ bytes)) value
    ∙ ap (λ t. cond t (Some (c, suc n)) None) (and_from (scalar c) _ is same)

-- The character at the start is found by the length of its UTF-8.
utf8_at-shape : (c : ℕ) (rest : List ℕ) → IsScalar c → Shape c →
    utf8_at (encode_utf8 c ++ rest) ≡ Some (c, length (encode_utf8 c))
utf8_at-shape c rest is (one h e) = rw e (utf8_at-led c 0 c rest (grind arith) (grind arith) is e)
utf8_at-shape c rest is (two l h e) =
    rw e (utf8_at-led (192 + c / 64) 1 c (next c ∷ rest) (grind arith) (grind arith) is e)
utf8_at-shape c rest is (three l h e) =
    rw e (utf8_at-led (224 + c / 4096) 2 c (next (c / 64) ∷ next c ∷ rest) (grind arith) (grind arith) is e)
utf8_at-shape c rest is (four l e) =
    let others = next (c / 4096) ∷ next (c / 64) ∷ next c ∷ rest in
    rw e (utf8_at-led (240 + c / 262144) 3 c others (grind arith) (grind arith) is e)

-- The character at the start is found.
pub utf8_at-encoded : (c : ℕ) (rest : List ℕ) → IsScalar c →
    utf8_at (encode_utf8 c ++ rest) ≡ Some (c, length (encode_utf8 c))
utf8_at-encoded c rest is = utf8_at-shape c rest is (shape c)

-- The first byte says how many bytes follow it.
encoded-continuation_len : (c b : ℕ) (others : List ℕ) → encode_utf8 c ≡ b ∷ others →
    length (encode_utf8 c) ≡ suc (continuation_len b)
encoded-continuation_len c b others e = by (shape c)
  where
    by : Shape c → length (encode_utf8 c) ≡ suc (continuation_len b)
    by (one h s) = let k : c ≡ b = cc in rw s (grind arith)
    by (two l h s) = let k : 192 + c / 64 ≡ b = cc in rw s (grind arith)
    by (three l h s) = let k : 224 + c / 4096 ≡ b = cc in rw s (grind arith)
    by (four l s) = let k : 240 + c / 262144 ≡ b = cc in rw s (grind arith)

-- a character and the number of its bytes
abbrev pub found : ℕ → ℕ → Option (ℕ × ℕ)
found c n = Some (c, n)

abbrev char_of : Option (ℕ × ℕ) → ℕ
char_of None = 0
char_of (Some p) = p.0

abbrev size_of : Option (ℕ × ℕ) → ℕ
size_of None = 0
size_of (Some p) = p.1

-- Two that are found at one place are the same.
pub some_same : (a b m n : ℕ) → found a m ≡ found b n → (a ≡ b) × (m ≡ n)
some_same a b m n e = (ap char_of e, ap size_of e)

-- what is found under a test
pub some_if : (t : Bool) (a b m n : ℕ) → cond t (found a m) None ≡ found b n → (t ≡ true) × (a ≡ b) × (m ≡ n)
some_if true a b m n e = let same = some_same a b m n e in (refl, same.0, same.1)
some_if false a b m n e = cc

-- A character with this UTF-8 stands at the start of the bytes.
pub record Leads (bytes : List ℕ) (c n : ℕ) : Type 0 where
  pub is_scalar : IsScalar c
  pub encoded : encode_utf8 c ≡ take n bytes
  pub within : n ≤ length bytes
  pub some : 0 < n

-- What is found is the character at the start.
pub utf8_at-leads : (bytes : List ℕ) (c n : ℕ) → utf8_at bytes ≡ Some (c, n) → Leads bytes c n
unfolding utf8_at
utf8_at-leads [] c n e = cc
utf8_at-leads (b ∷ bytes) c n e =
    let k = suc (continuation_len b) in
    let v = continued (lead_bits b) (take (continuation_len b) bytes) in
    let p = some_if (scalar v && bytes_eq (encode_utf8 v) (take k (b ∷ bytes))) v c k n e in
    let tests = and_parts (scalar v) (bytes_eq (encode_utf8 v) (take k (b ∷ bytes))) p.0 in
    let value : v ≡ c = p.1 in
    let size : k ≡ n = p.2 in
    let same = (bytes_eq-Decides (encode_utf8 v) (take k (b ∷ bytes))).0 tests.1 in
    let long = encoded-continuation_len v b (take (continuation_len b) bytes) same in
    record {
      is_scalar = rw (← value) tests.0;
      encoded = rw (← value, ← size) same;
      within = omega (arith, ap length same, length-take (continuation_len b) bytes);
      some = omega arith;
    }

-- The first byte of a character other than a backslash is no backslash.
pub encoded-first : (c : ℕ) → (c == backslash) ≡ false →
    (b : ℕ) × (others : List ℕ) × (encode_utf8 c ≡ b ∷ others) × ((b == backslash) ≡ false)
encoded-first c ne = by (shape c)
  where
    by : Shape c → (b : ℕ) × (others : List ℕ) × (encode_utf8 c ≡ b ∷ others) × ((b == backslash) ≡ false)
    by (one h s) = (c, [], s, ne)
    by (two l h s) = (192 + c / 64, _, s, grind arith)
    by (three l h s) = (224 + c / 4096, _, s, grind arith)
    by (four l s) = (240 + c / 262144, _, s, grind arith)
