-- Which texts are pointers, by where a tilde stands alone.
use Rattle.std.proofs.Common.{◌≡◌, ◌≢◌, ℕ, suc, ◌+◌, ◌<◌, Bool, true, false, ◌==◌, ◌&&◌, not, List, ◌∷◌, ◌++◌, length, get_or, drop, Option, Some, None, option_map, refl, ap, ◌∙◌, arith}
use Rattle.std.proofs.Math.Bool.{and-false}
use Rattle.std.proofs.lemmas.List.{drop_more}
use Rattle.facet_json_tree.specs.Pointer.{tilde, IsToken, IsPointer, begins_pointer, zero_or_one, lone_tilde, IsNoPointer}

-- ---- a lone tilde, from the left to the right

-- The byte is a tilde, and neither 0 nor 1 stands behind it.
abbrev pub stands_alone : ℕ → List ℕ → Bool
stands_alone b behind = (b == tilde) && not (zero_or_one behind)

-- where a lone tilde stands in a text whose first i bytes have none
abbrev pub IsFoundFrom : List ℕ → ℕ → Type 0
IsFoundFrom text i = lone_tilde text ≡ option_map (λ k. k + i) (lone_tilde (drop i text))

by_none : (o : Option ℕ) → o ≡ option_map (λ k. k + 0) o
by_none None = refl
by_none (Some k) = ap Some (omega arith)

by_one : (o : Option ℕ) (i : ℕ) → option_map (λ k. k + i) (option_map (λ k. suc k) o) ≡ option_map (λ k. k + (i + 1)) o
by_one None i = refl
by_one (Some k) i = ap Some (omega arith)

pub found_from-none : (text : List ℕ) → IsFoundFrom text 0
found_from-none text = by_none (lone_tilde text)

passed : (b : ℕ) (behind : List ℕ) (i : ℕ) → stands_alone b behind ≡ false
    → option_map (λ k. k + i) (lone_tilde (b ∷ behind)) ≡ option_map (λ k. k + (i + 1)) (lone_tilde behind)
passed b behind i not_alone = rw not_alone (by_one (lone_tilde behind) i)

met : (b : ℕ) (behind : List ℕ) (i : ℕ) → stands_alone b behind ≡ true
    → option_map (λ k. k + i) (lone_tilde (b ∷ behind)) ≡ Some i
met b behind i alone = rw alone (ap Some (omega arith))

pub found_from-more : (text : List ℕ) (i : ℕ) → i < length text → IsFoundFrom text i
    → stands_alone (get_or text i 0) (drop (i + 1) text) ≡ false → IsFoundFrom text (i + 1)
found_from-more text i h found not_alone =
    found ∙ ap (λ xs. option_map (λ k. k + i) (lone_tilde xs)) (drop_more text i 0 h) ∙ passed (get_or text i 0) (drop (i + 1) text) i not_alone

pub found_from-met : (text : List ℕ) (i : ℕ) → i < length text → IsFoundFrom text i
    → stands_alone (get_or text i 0) (drop (i + 1) text) ≡ true → lone_tilde text ≡ Some i
found_from-met text i h found alone =
    found ∙ ap (λ xs. option_map (λ k. k + i) (lone_tilde xs)) (drop_more text i 0 h) ∙ met (get_or text i 0) (drop (i + 1) text) i alone

-- ---- in a pointer no tilde stands alone

pub other_byte : (b : ℕ) → b ≢ tilde → (b == tilde) ≡ false
other_byte b h = grind arith

token_alone : (token name rest : List ℕ) → IsToken token name → lone_tilde rest ≡ None → lone_tilde (token ++ rest) ≡ None
token_alone _ _ rest IsToken.empty none = none
token_alone _ _ rest (IsToken.plain b token name no_slash no_tilde is) none = rw (other_byte b no_tilde, token_alone token name rest is none)
token_alone _ _ rest (IsToken.tilde_zero token name is) none = rw (token_alone token name rest is none)
token_alone _ _ rest (IsToken.tilde_one token name is) none = rw (token_alone token name rest is none)

pub pointer-lone_tilde : (text : List ℕ) (names : List (List ℕ)) → IsPointer text names → lone_tilde text ≡ None
pointer-lone_tilde _ _ IsPointer.whole = refl
pointer-lone_tilde _ _ (IsPointer.within token name pointer names is others) =
    rw (token_alone token name pointer is (pointer-lone_tilde pointer names others))

pub pointer-begins : (text : List ℕ) (names : List (List ℕ)) → IsPointer text names → begins_pointer text ≡ true
pointer-begins _ _ IsPointer.whole = refl
pointer-begins _ _ (IsPointer.within token name pointer names is others) = refl

-- So a text that begins otherwise is none,
pub no_pointer-begins : (text : List ℕ) → begins_pointer text ≡ false → IsNoPointer text
no_pointer-begins text not_begun names is = let begun = pointer-begins text names is in cc

-- and one in which a tilde does.
pub no_pointer-lone : (text : List ℕ) (i : ℕ) → lone_tilde text ≡ Some i → IsNoPointer text
no_pointer-lone text i lone names is = let none = pointer-lone_tilde text names is in cc

-- ---- whether a byte is a tilde that stands alone, by what the code tests

pub alone : (b : ℕ) (behind : List ℕ) → b ≡ tilde → zero_or_one behind ≡ false → stands_alone b behind ≡ true
alone b behind is_tilde no_escape = rw (is_tilde, no_escape) refl

pub not_alone-byte : (b : ℕ) (behind : List ℕ) → b ≢ tilde → stands_alone b behind ≡ false
not_alone-byte b behind no_tilde = rw (other_byte b no_tilde)

pub not_alone-escape : (b : ℕ) (behind : List ℕ) → zero_or_one behind ≡ true → stands_alone b behind ≡ false
not_alone-escape b behind escape = rw escape (and-false (b == tilde))
