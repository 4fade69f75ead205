-- From a window's mask to bytes that need no escape.
use Rattle.std.proofs.Common.{◌≡◌, ℕ, zero, suc, ◌+◌, ◌-◌, ◌%◌, ◌^◌, ◌≤◌, Bool, true, false, cond, ◌==◌, List, [], ◌∷◌, ◌++◌, length, drop, get_or, map, replicate, bit_or, Fits, w8, refl, sym, ap, ap₂, ◌∙◌, arith, get_or-take, get_or-drop}
use Rattle.std.proofs.lemmas.Bool.{eqb-true, not-true}
use Rattle.std.proofs.lemmas.Simd.{length-chunk, leading_from_mask_l, chunk-fits, zip2_splat}
use Rattle.std.proofs.lemmas.List.Sums.{prefix_len-le-length}
use Rattle.std.specs.Bool.{OnTrue}
use Rattle.std.specs.List.{flat_map, prefix_len}
use lib.Lanes.{chunk, mask_l, zip2, top}
use Rattle.facet_json_grammar.specs.Quoted.{escaped}
use Rattle.facet_format.proofs.Lanes.{equal, below, either, masked}
use Rattle.facet_json_serializer.specs.Inner.Window.{needs_escape, needs_no_escape, PlainBetween}
use Rattle.facet_json_serializer.proofs.Escapes.{plain_escape}

all_byte : (p : Bool) (n l : ℕ) → n ≤ l → cond p (1 + n) 0 ≡ suc l → (p ≡ true) × (n ≡ l)
all_byte true n l h e = (refl, omega arith)
all_byte false n l h e = absurd (omega arith)

all_plain : (xs : List ℕ) → prefix_len needs_no_escape xs ≡ length xs → PlainBetween xs 0 (length xs)
all_plain [] e k p q = absurd (omega arith)
all_plain (x ∷ xs) e zero p q = (all_byte (needs_no_escape x) _ (length xs) (prefix_len-le-length needs_no_escape xs) e).0
all_plain (x ∷ xs) e (suc k) p q = all_plain xs (all_byte (needs_no_escape x) _ (length xs) (prefix_len-le-length needs_no_escape xs) e).1 k (omega arith) (omega arith)

plain_from_mask : (d : List ℕ) (i n : ℕ) → i + n ≤ length d → mask_l (map needs_escape (chunk i n d)) ≡ 0 → PlainBetween d i (i + n)
plain_from_mask d i n room none k p q =
    let long = length-chunk i n d room in
    let back : i + (k - i) ≡ k = omega arith in
    ap needs_no_escape (sym (get_or-take n (drop i d) (k - i) 0 (omega arith) ∙ get_or-drop i d (k - i) 0 ∙ ap (λ j. get_or d j 0) back))
    ∙ all_plain (chunk i n d) (leading_from_mask_l needs_escape (chunk i n d) none) (k - i) (omega arith) (omega arith)

on_true : (b : Bool) (P : Type 0) → (b ≡ true → P) → OnTrue b P
on_true true P f = f refl
on_true false P f = tt

-- the four tests of a window of n bytes, as the code makes them
pub plain_from_lanes : (d : List ℕ) (i n : ℕ) → i + n ≤ length d → n ≤ 64 → ((k : ℕ) → Fits w8 (get_or d k 0))
    → OnTrue (mask_l (map (top 7) (zip2 bit_or (zip2 bit_or (zip2 bit_or (zip2 below (chunk i n d) (replicate n 32)) (zip2 equal (chunk i n d) (replicate n 34))) (zip2 equal (chunk i n d) (replicate n 92))) (zip2 equal (chunk i n d) (replicate n 127)))) % 2 ^ 64 == 0)
    (PlainBetween d i (i + n))
plain_from_lanes d i n room few fits =
    let v = chunk i n d in
    let long = length-chunk i n d room in
    let controls = zip2_splat below v n 32 long in
    let quotes = either _ _ v controls (zip2_splat equal v n 34 long) in
    let backslashes = either _ _ v quotes (zip2_splat equal v n 92 long) in
    let mask = masked _ needs_escape v _ (omega arith) (chunk-fits w8 i n d fits) (either _ _ v backslashes (zip2_splat equal v n 127 long)) tt in
    on_true _ _ (λ e. plain_from_mask d i n room (sym mask ∙ eqb-true _ 0 e))

-- bytes none of which needs an escape stand for themselves
pub plain_text : (d : List ℕ) → PlainBetween d 0 (length d) → flat_map escaped d ≡ d
plain_text [] h = refl
plain_text (x ∷ xs) h =
    let rest = plain_text xs (λ k p q. h (suc k) (omega arith) (omega arith)) in
    ap₂ (λ p r. p ++ r) (plain_escape x (not-true (needs_escape x) (h 0 (omega arith) (omega arith)))) rest
