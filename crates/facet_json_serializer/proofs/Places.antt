-- Writes at places of one buffer, one after another.
use Rattle.std.proofs.Common.{◌≡◌, ℕ, ◌+◌, ◌-◌, ◌≤◌, List, ◌++◌, length, take, drop, ap, sym, ◌∙◌, arith, append_assoc, length-append, length-take-le, length-drop, take-add, take-take, take_at, drop_at, take_all, take-append-drop}
use Rattle.facet_json_serializer.specs.Inner.Places.{Placed}

-- a second write begins where the first ended
pub Placed-then : {a b c xs ys : List ℕ} {i j k : ℕ} → Placed a b i xs j → Placed b c j ys k → Placed a c i (xs ++ ys) k
Placed-then {a} {b} {c} {xs} {ys} {i} p q = record {
  bytes = q.bytes ∙ ap (λ l. l ++ ys) p.bytes ∙ append_assoc (take i a) xs ys;
  moved = omega (arith, p.moved, q.moved, length-append xs ys);
  len = q.len ∙ p.len;
}

-- only the first n bytes of a write are kept
Placed-less : {a b xs : List ℕ} {i j : ℕ} (n : ℕ) → i ≤ length a → n ≤ length xs → Placed a b i xs j → Placed a b i (take n xs) (i + n)
Placed-less {a} {b} {xs} {i} {j} n within few p =
    let front = length-take-le i a within in
    record {
      bytes = sym (take-take (i + n) j b (omega (arith, p.moved))) ∙ ap (take (i + n)) p.bytes ∙ take-add i n (take i a ++ xs)
          ∙ (λ k. take_at (take i a) xs i front k ++ take n (drop_at (take i a) xs i front k));
      moved = omega (arith, length-take-le n xs few);
      len = p.len;
    }

-- the first and the last `half` bytes of src, laid over each other, are src
pub Placed-ends : {a b c : List ℕ} {i j k : ℕ} (src : List ℕ) (half : ℕ) → i ≤ length a → half ≤ length src → length src ≤ half + half
    → Placed a b i (take half src) j → Placed b c (i + (length src - half)) (take half (drop (length src - half) src)) k → Placed a c i src k
Placed-ends {a} {b} {c} {i} {j} {k} src half within fits covers p q =
    let last = length src - half in
    let both = Placed-then (Placed-less last within (omega (arith, length-take-le half src fits)) p) q in
    let whole : take last (take half src) ++ take half (drop last src) ≡ src =
    (λ x. take-take last half src (omega arith) x ++ take_all half (drop last src) (omega (arith, length-drop last src)) x) ∙ take-append-drop last src in
    record { bytes = both.bytes ∙ ap (λ l. take i a ++ l) whole; moved = both.moved ∙ ap (λ l. i + length l) whole; len = both.len }
