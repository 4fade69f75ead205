-- Whole numbers: which of them a type holds, and how they come back from their text.
use Rattle.std.proofs.Common.{◌≡◌, ◌<◌, ◌≤◌, ◌^◌, ℕ, Bool, true, false, cond, nat_lt, Some, None, refl, sym, ap, ◌∙◌, arith}
use Rattle.std.specs.Prelude.{ℤ, pos, negsuc, FitsSigned, unsigned_abs}
use Rattle.std.specs.Int.{Width, FitsUnsigned}
use Rattle.std.proofs.lemmas.Bool.{ltb-true, lt-ltb}
use mir.Val.{bits, hbits}
use lib.Dec.{ltb→lt, lt→ltb, le→leb}
use Rattle.facet_json_grammar.specs.Text.{as_array}
use Rattle.facet_json_grammar.specs.Tree.{Tree, u64, i64}
use Rattle.facet_json_grammar.specs.AsRead.{ReadsAs, u64_is_whole, i64_is_whole, FitsBits, RawParts, WellFormed}
use Rattle.facet_json_core.specs.Meaning.Laws.{ReadsBack}
use Rattle.facet_json_core.specs.Meaning.Readings.{leaf, unsigned_in, signed_in, unsigned_of, signed_of}
use Rattle.facet_json_core.proofs.Meaning.Leaves.LeafLaws.{leaf-back}

-- ---- which numbers a type holds

some-below : {A : Type 0} (n m : ℕ) (a : A) → n < m → cond (nat_lt n m) (Some a) None ≡ Some a
some-below n m a h = ap (λ b. cond b (Some a) None) (lt-ltb n m h)

none-by : {A : Type 0} (n m : ℕ) (a : A) (b : Bool) → nat_lt n m ≡ b → ¬ (n < m) → cond b (Some a) None ≡ None
none-by n m a true e h = absurd (h (ltb-true n m e))
none-by n m a false e h = refl

pub none-above : {A : Type 0} (n m : ℕ) (a : A) → ¬ (n < m) → cond (nat_lt n m) (Some a) None ≡ None
none-above n m a h = none-by n m a (nat_lt n m) refl h

pub unsigned-holds : (w : Width) (z : ℤ) (v : ℕ) → FitsUnsigned w z → v ≡ unsigned_abs z → unsigned_in (bits w) z ≡ Some v
unsigned-holds w (pos n) v fits is = some-below n (2 ^ bits w) n (ltb→lt n (2 ^ bits w) fits.1.lt) ∙ ap Some (sym is)
unsigned-holds w (negsuc n) v fits is = absurd fits.0.le

pub unsigned-lacks : (w : Width) (z : ℤ) → ¬ (FitsUnsigned w z) → unsigned_in (bits w) z ≡ None
unsigned-lacks w (pos n) never =
    none-above n (2 ^ bits w) n (λ h. never (record { le = le→leb 0 n (omega arith) }, record { lt = lt→ltb n (2 ^ bits w) h }))
unsigned-lacks w (negsuc n) never = refl

pub signed-holds : (w : Width) (z v : ℤ) → FitsSigned w z → v ≡ z → signed_in (hbits w) z ≡ Some v
signed-holds w (pos n) v fits is = some-below n (2 ^ hbits w) (pos n) fits.sfits ∙ ap Some (sym is)
signed-holds w (negsuc n) v fits is = some-below n (2 ^ hbits w) (negsuc n) fits.sfits ∙ ap Some (sym is)

pub signed-lacks : (w : Width) (z : ℤ) → ¬ (FitsSigned w z) → signed_in (hbits w) z ≡ None
signed-lacks w (pos n) never = none-above n (2 ^ hbits w) (pos n) (λ h. never (record { sfits = h }))
signed-lacks w (negsuc n) never = none-above n (2 ^ hbits w) (negsuc n) (λ h. never (record { sfits = h }))

-- ---- back from the text

tree-below : (n m : ℕ) (t u : Tree) → n < m → cond (nat_lt n m) t u ≡ t
tree-below n m t u h = ap (λ b. cond b t u) (lt-ltb n m h)

as_read-unsigned : (most n : ℕ) (read : Tree) → n < 2 ^ most → n < 2 ^ 64 → ReadsAs as_array (u64 n) read → unsigned_of most read ≡ Some n
as_read-unsigned most n _ h wide (u64_is_whole _) =
    ap (unsigned_of most) (tree-below n (2 ^ 64) (u64 n) _ wide) ∙ some-below n (2 ^ most) n h

as_read-signed : (most : ℕ) (z : ℤ) (read : Tree) → FitsBits most z → FitsBits 63 z → ReadsAs as_array (i64 z) read → signed_of most read ≡ Some z
as_read-signed most (pos n) _ h wide (i64_is_whole _) =
    ap (signed_of most) (tree-below n (2 ^ 64) (u64 n) _ (omega (arith, wide))) ∙ some-below n (2 ^ most) (pos n) h
as_read-signed most (negsuc n) _ h wide (i64_is_whole _) =
    ap (signed_of most) (tree-below n (2 ^ 63) (i64 (negsuc n)) _ wide) ∙ some-below n (2 ^ most) (negsuc n) h

pub unsigned-reads_back : (most : ℕ) → 2 ^ most ≤ 2 ^ 64 → ReadsBack (leaf (unsigned_of most)) u64 (λ (n : ℕ). n < 2 ^ most) (λ (n : ℕ). Unit {0})
unfolding WellFormed RawParts
unsigned-reads_back most small n h readable =
    let wide : n < 2 ^ 64 = omega (arith, h, small) in
    leaf-back (unsigned_of most) (λ ts. refl) (λ ps. refl) n (u64 n) wide tt (λ read how. as_read-unsigned most n read h wide how)

within-more : (most : ℕ) (z : ℤ) → 2 ^ most ≤ 2 ^ 63 → FitsBits most z → FitsBits 63 z
within-more most (pos n) small h = omega (arith, h, small)
within-more most (negsuc n) small h = omega (arith, h, small)

pub signed-reads_back : (most : ℕ) → 2 ^ most ≤ 2 ^ 63 → ReadsBack (leaf (signed_of most)) i64 (λ (z : ℤ). FitsBits most z) (λ (z : ℤ). Unit {0})
unfolding WellFormed RawParts
signed-reads_back most small z h readable =
    let wide = within-more most z small h in
    leaf-back (signed_of most) (λ ts. refl) (λ ps. refl) z (i64 z) wide tt (λ read how. as_read-signed most z read h wide how)

pub u8-reads_back : ReadsBack (leaf (unsigned_of 8)) u64 (λ (n : ℕ). n < 2 ^ 8) (λ (n : ℕ). Unit {0})
u8-reads_back = unsigned-reads_back 8 (omega arith)

pub u16-reads_back : ReadsBack (leaf (unsigned_of 16)) u64 (λ (n : ℕ). n < 2 ^ 16) (λ (n : ℕ). Unit {0})
u16-reads_back = unsigned-reads_back 16 (omega arith)

pub u32-reads_back : ReadsBack (leaf (unsigned_of 32)) u64 (λ (n : ℕ). n < 2 ^ 32) (λ (n : ℕ). Unit {0})
u32-reads_back = unsigned-reads_back 32 (omega arith)

pub u64-reads_back : ReadsBack (leaf (unsigned_of 64)) u64 (λ (n : ℕ). n < 2 ^ 64) (λ (n : ℕ). Unit {0})
u64-reads_back = unsigned-reads_back 64 (omega arith)

pub i8-reads_back : ReadsBack (leaf (signed_of 7)) i64 (λ (z : ℤ). FitsBits 7 z) (λ (z : ℤ). Unit {0})
i8-reads_back = signed-reads_back 7 (omega arith)

pub i16-reads_back : ReadsBack (leaf (signed_of 15)) i64 (λ (z : ℤ). FitsBits 15 z) (λ (z : ℤ). Unit {0})
i16-reads_back = signed-reads_back 15 (omega arith)

pub i32-reads_back : ReadsBack (leaf (signed_of 31)) i64 (λ (z : ℤ). FitsBits 31 z) (λ (z : ℤ). Unit {0})
i32-reads_back = signed-reads_back 31 (omega arith)

pub i64-reads_back : ReadsBack (leaf (signed_of 63)) i64 (λ (z : ℤ). FitsBits 63 z) (λ (z : ℤ). Unit {0})
i64-reads_back = signed-reads_back 63 (omega arith)
