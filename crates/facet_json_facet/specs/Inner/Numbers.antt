-- Types of whole numbers of at most 64 bits: which numbers each holds, as what tree one is written, and what follows from that.
use Rattle.std.proofs.Common.{◌≡◌, ◌<◌, ◌^◌, ℕ, ℤ, List, Option, None, Some, Result, Ok, Err}
use Rattle.std.specs.Prelude.{FitsSigned, unsigned_abs}
use Rattle.std.specs.Int.{Width, w64, FitsUnsigned}
use Rattle.std.specs.Option.{option_and_then}
use Rattle.std.specs.Result.{OkIff, IfOk, IfErr}
use mir.Val.{bits, hbits}
use Rattle.facet_json_grammar.specs.Tree.{Tree, i64, u64}
use Rattle.facet_json_grammar.specs.AsRead.{FitsBits, WellFormed, RawParts}
use Rattle.facet_json_tree.specs.Write.{IsOfRust}
use Rattle.facet_json_tree.proofs.OfRust.{fits-within}
use Rattle.facet_json_core.specs.Meaning.Laws.{ReadsBack}
use Rattle.facet_json_core.specs.Meaning.Readings.{leaf, signed_in, signed_of, unsigned_in, unsigned_of, whole_of}
use Rattle.facet_json_core.proofs.Meaning.Leaves.WholeNumbers.{signed-holds, signed-lacks, unsigned-holds, unsigned-lacks}

-- A type of whole numbers: how it is called, which numbers it holds, and as what tree a value is written.
pub record NumberType (A : Type 0) : Type 1 where
  pub called : List ℕ
  pub holds : ℤ → Option A
  pub tree_of : A → Tree
  -- the value lies within the bits of the type
  pub fits : A → Type 0
  -- what every value of the type has
  pub always : A → Type 0
  -- the value lies within 64 bits
  pub fits_wide : A → Type 0

-- without a sign
abbrev pub unsigned : Width → List ℕ → NumberType ℕ
unsigned w called = record {
  called = called;
  holds = unsigned_in (bits w);
  tree_of = u64;
  fits = λ n. n < 2 ^ bits w;
  always = λ n. n < 2 ^ bits w;
  fits_wide = λ n. n < 2 ^ 64;
}

-- with one
abbrev pub signed : Width → List ℕ → NumberType ℤ
signed w called = record {
  called = called;
  holds = signed_in (hbits w);
  tree_of = i64;
  fits = FitsSigned w;
  always = FitsBits (hbits w);
  fits_wide = FitsSigned w64;
}

-- What holds of such a type, whose conversion of a number gives this.
pub record NumberLaws {A E : Type 0} (number : NumberType A) (gives : ℤ → Result A E → Type 0) : Type 0 where
  -- a number is converted where the type holds it, and not where it does not
  pub tries : (z : ℤ) (r : Result A E) → gives z r → IfOk r (λ n. number.holds z ≡ Some n) × IfErr r (λ e. number.holds z ≡ None)
  -- every value within the type's bits has what each has
  pub fits_always : (n : A) → number.fits n → number.always n
  -- a value within 64 bits is a tree of Rust
  pub of_rust : (n : A) → number.fits_wide n → IsOfRust (number.tree_of n)
  -- the text of a value reads as the value
  pub reads_back : ReadsBack (leaf (λ t. option_and_then number.holds (whole_of t))) number.tree_of number.always (λ _. Unit {0})

unsigned-tries : {E : Type 0} (w : Width) (z : ℤ) (r : Result ℕ E) → OkIff r (FitsUnsigned w z) (unsigned_abs z) →
    IfOk r (λ n. unsigned_in (bits w) z ≡ Some n) × IfErr r (λ e. unsigned_in (bits w) z ≡ None)
unsigned-tries w z (Ok n) h = (unsigned-holds w z n h.0 h.1, tt)
unsigned-tries w z (Err e) never = (tt, unsigned-lacks w z never)

unsigned-of_rust : (n : ℕ) → n < 2 ^ 64 → IsOfRust (u64 n)
unfolding WellFormed RawParts
unsigned-of_rust n fits = (fits, tt)

pub unsigned-laws : {E : Type 0} (w : Width) (called : List ℕ) →
    ReadsBack (leaf (unsigned_of (bits w))) u64 (λ (n : ℕ). n < 2 ^ bits w) (λ (n : ℕ). Unit {0}) →
    NumberLaws (unsigned w called) (λ z (r : Result ℕ E). OkIff r (FitsUnsigned w z) (unsigned_abs z))
unsigned-laws w called back = record { tries = unsigned-tries w; fits_always = λ n fits. fits; of_rust = unsigned-of_rust; reads_back = back }

signed-tries : {E : Type 0} (w : Width) (z : ℤ) (r : Result ℤ E) → OkIff r (FitsSigned w z) z →
    IfOk r (λ n. signed_in (hbits w) z ≡ Some n) × IfErr r (λ e. signed_in (hbits w) z ≡ None)
signed-tries w z (Ok n) h = (signed-holds w z n h.0 h.1, tt)
signed-tries w z (Err e) never = (tt, signed-lacks w z never)

signed-of_rust : (z : ℤ) → FitsSigned w64 z → IsOfRust (i64 z)
unfolding WellFormed RawParts
signed-of_rust z fits = (fits-within w64 z fits, tt)

pub signed-laws : {E : Type 0} (w : Width) (called : List ℕ) →
    ReadsBack (leaf (signed_of (hbits w))) i64 (λ (z : ℤ). FitsBits (hbits w) z) (λ (z : ℤ). Unit {0}) →
    NumberLaws (signed w called) (λ z (r : Result ℤ E). OkIff r (FitsSigned w z) z)
signed-laws w called back = record { tries = signed-tries w; fits_always = fits-within w; of_rust = signed-of_rust; reads_back = back }
