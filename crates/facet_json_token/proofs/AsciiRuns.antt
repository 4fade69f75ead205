-- A run of ASCII at a place, and what it says of the bytes up to another.
use Rattle.std.proofs.Common.{◌≡◌, ℕ, zero, suc, ◌+◌, ◌-◌, ◌<◌, ◌≤◌, Bool, true, false, not, cond, List, [], ◌∷◌, length, take, drop, get_or, replicate, lit<, map, refl, sym, ap, ◌∙◌, arith}
use Rattle.std.specs.Prelude.{nat_le, slice_range, IsUtf8}
use Rattle.facet_json_token.specs.Inner.Ascii.{is_high, is_low}
use Rattle.std.specs.List.{prefix_len}
use Rattle.std.proofs.lemmas.Bool.{leb-true, leb-false}
use Rattle.std.proofs.lemmas.Str.{IsUtf8-from_ascii}
use Rattle.std.specs.Str.{IsAscii}
use lib.Lanes.{zip2}

-- a comparison whose left side is one byte in all lanes
pub splat_left : (h : ℕ → ℕ → ℕ) (y n : ℕ) (xs : List ℕ) → length xs ≡ n → zip2 h (replicate n y) xs ≡ map (h y) xs
splat_left h y n xs long = ap (λ k. zip2 h (replicate k y) xs) (sym long) ∙ each xs
  where
    each : (xs : List ℕ) → zip2 h (replicate (length xs) y) xs ≡ map (h y) xs
    each [] = refl
    each (x ∷ xs) = ap (λ r. h y x ∷ r) (each xs)

-- No more bytes than the run has are ASCII.
run-IsAscii : (n : ℕ) (bytes : List ℕ) → n ≤ prefix_len is_low bytes → IsAscii (take n bytes)
run-IsAscii zero bytes le i = lit< tt
run-IsAscii (suc n) [] le i = lit< tt
run-IsAscii (suc n) (b ∷ bytes) le i = by (is_high b) refl le i (run-IsAscii n bytes)
  where
    by : (t : Bool) → is_high b ≡ t → suc n ≤ cond (not t) (1 + prefix_len is_low bytes) 0 → (i : ℕ) → (n ≤ prefix_len is_low bytes → IsAscii (take n bytes)) → get_or (take (suc n) (b ∷ bytes)) i 0 < 128
    by false is h zero rest = leb-false 128 b is
    by false is h (suc i) rest = rest (omega arith) i
    by true is h i rest = absurd (omega arith)

-- Bytes that such a run covers are UTF-8.
pub run-IsUtf8 : (buf : List ℕ) (start finish : ℕ) → nat_le finish (start + prefix_len is_low (drop start buf)) ≡ true → IsUtf8 (slice_range buf start finish)
run-IsUtf8 buf start finish is =
    let covers = leb-true finish (start + prefix_len is_low (drop start buf)) is in
    IsUtf8-from_ascii (slice_range buf start finish) (run-IsAscii (finish - start) (drop start buf) (omega arith))
