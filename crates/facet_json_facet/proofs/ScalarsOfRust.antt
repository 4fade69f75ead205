-- Scalars are trees of Rust.
use Rattle.std.proofs.Common.{◌≡◌, ◌<◌, ◌^◌, ℕ, Bool, true, List, ℤ, Result, Ok, Err}
use Rattle.std.specs.Result.{OnOk}
use Rattle.std.specs.Str.{is_utf8}
use Rattle.facet_json_grammar.specs.Tree.{null, bool, text, i128, u128, raw}
use Rattle.facet_json_grammar.specs.AsRead.{FitsBits, WellFormed, RawParts}
use Rattle.facet_json_tree.specs.Write.{IsOfRust}

-- what holds whatever was answered
pub on-ok : {E : Type 0} (P : Type 0) (r : Result (Unit {0}) E) → P → OnOk r P
on-ok P (Ok nothing) h = h
on-ok P (Err e) h = tt

pub null-of_rust : IsOfRust null
unfolding WellFormed RawParts
null-of_rust = (tt, tt)

pub bool-of_rust : (b : Bool) → IsOfRust (bool b)
unfolding WellFormed RawParts
bool-of_rust b = (tt, tt)

pub text-of_rust : (t : List ℕ) → is_utf8 t ≡ true → IsOfRust (text t)
unfolding WellFormed RawParts
text-of_rust t utf8 = (utf8, tt)

pub u128-of_rust : (n : ℕ) → n < 2 ^ 128 → IsOfRust (u128 n)
unfolding WellFormed RawParts
u128-of_rust n fits = (fits, tt)

pub i128-of_rust : (z : ℤ) → FitsBits 127 z → IsOfRust (i128 z)
unfolding WellFormed RawParts
i128-of_rust z fits = (fits, tt)

pub raw-of_rust : (t : List ℕ) → is_utf8 t ≡ true → IsOfRust (raw t)
unfolding WellFormed RawParts
raw-of_rust t utf8 = (tt, utf8)
