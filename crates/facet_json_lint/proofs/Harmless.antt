-- Characters that are no control characters of ASCII have no such bytes.
use Rattle.std.proofs.Common.{◌≡◌, ◌≢◌, ℕ, ◌≤◌, List, [], ◌∷◌, ◌++◌, sym, subst, arith}
use Rattle.std.specs.Prelude.{Result, Ok, Err, OnOk, is_ok, if◌then◌else◌}
use Rattle.std.proofs.Math.Utf8.{encode}
use Rattle.std.proofs.lemmas.Bool.Decides.{nat_tests}
use Rattle.std.proofs.lemmas.List.Elements.{All-nil, All-cons, All-append}
use Rattle.facet_json_lint.specs.Shown.{IsHarmless}

abbrev IsHarmlessByte : ℕ → Type 0
IsHarmlessByte b = (0x20 ≤ b) × (b ≢ 0x7F)

large : (b : ℕ) → 128 ≤ b → IsHarmlessByte b
large b h = (omega arith, omega arith)

pub none_harmless : IsHarmless []
none_harmless = All-nil IsHarmlessByte

one : (b : ℕ) (bs : List ℕ) → IsHarmlessByte b → IsHarmless bs → IsHarmless (b ∷ bs)
one b bs h hs = All-cons IsHarmlessByte b bs h hs

pub encode_harmless : (c : ℕ) → 0x20 ≤ c → c ≢ 0x7F → IsHarmless (encode c)
unfolding encode
encode_harmless c low other = grind (arith, nat_tests, one, large, none_harmless)

pub append_harmless : (xs ys : List ℕ) → IsHarmless xs → IsHarmless ys → IsHarmless (xs ++ ys)
append_harmless xs ys p q = All-append IsHarmlessByte xs ys p q

-- So is a text to which one of them was appended.
pub pushed_harmless : {A E : Type 0} (r : Result A E) (old text new : List ℕ) → IsHarmless text →
    new ≡ (if is_ok r then old ++ text else old) → IsHarmless old → OnOk r (IsHarmless new)
pushed_harmless (Ok x) old text new q e p = subst IsHarmless (sym e) (append_harmless old text p q)
pushed_harmless (Err x) old text new q e p = tt

pub replacement_harmless : IsHarmless (encode 0xFFFD)
replacement_harmless = encode_harmless 0xFFFD (omega arith) (omega arith)
