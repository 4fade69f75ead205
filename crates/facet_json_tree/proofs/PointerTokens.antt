-- What a reference token stands for, and where it ends.
use Rattle.std.proofs.Common.{◌≡◌, ◌≢◌, ◌≤◌, length, get_or, ℕ, false, ◌==◌, List, [], ◌∷◌, ◌++◌, take, drop, refl, ap, ◌∙◌, arith}
use Rattle.facet_format.specs.Bytes.{slash}
use Rattle.facet_json_tree.specs.Inner.PointerParts.{unescaped, before_slash}
use Rattle.facet_json_tree.specs.Pointer.{tilde, IsToken, IsPointer}
use Rattle.facet_json_tree.proofs.Pointers.{other_byte}

-- A byte other than a tilde stands for itself.
pub unescaped-plain : (b : ℕ) (token : List ℕ) → b ≢ tilde → unescaped (b ∷ token) ≡ b ∷ unescaped token
unescaped-plain b [] no_tilde = refl
unescaped-plain b (c ∷ token) no_tilde = rw (other_byte b no_tilde)

-- A token is unescaped to what it stands for.
pub token-unescaped : (token name : List ℕ) → IsToken token name → unescaped token ≡ name
token-unescaped _ _ IsToken.empty = refl
token-unescaped _ _ (IsToken.plain b token name no_slash no_tilde is) =
    unescaped-plain b token no_tilde ∙ ap (λ xs. b ∷ xs) (token-unescaped token name is)
token-unescaped _ _ (IsToken.tilde_zero token name is) = ap (λ xs. tilde ∷ xs) (token-unescaped token name is)
token-unescaped _ _ (IsToken.tilde_one token name is) = ap (λ xs. slash ∷ xs) (token-unescaped token name is)

-- ~1 stands for a slash.
pub unescaped-one : (token : List ℕ) → 2 ≤ length token → get_or token 0 0 ≡ tilde → get_or token 1 0 ≡ 0x31
    → unescaped token ≡ slash ∷ unescaped (drop 2 token)
unescaped-one [] long is_tilde is_one = absurd (omega arith)
unescaped-one (b ∷ []) long is_tilde is_one = absurd (omega arith)
unescaped-one (b ∷ c ∷ token) long is_tilde is_one = rw (is_tilde, is_one)

-- ---- the bytes before the first slash

no_slash_test : (b : ℕ) → b ≢ slash → (b == slash) ≡ false
no_slash_test b h = grind arith

before_slash-pointer : (pointer : List ℕ) (names : List (List ℕ)) → IsPointer pointer names → before_slash pointer ≡ []
before_slash-pointer _ _ IsPointer.whole = refl
before_slash-pointer _ _ (IsPointer.within token name pointer names is others) = refl

-- before a pointer they are a token
pub before_slash-token : (token name pointer : List ℕ) (names : List (List ℕ)) → IsToken token name → IsPointer pointer names
    → before_slash (token ++ pointer) ≡ token
before_slash-token _ _ pointer names IsToken.empty behind = before_slash-pointer pointer names behind
before_slash-token _ _ pointer names (IsToken.plain b token name no_slash no_tilde is) behind =
    rw (no_slash_test b no_slash, before_slash-token token name pointer names is behind)
before_slash-token _ _ pointer names (IsToken.tilde_zero token name is) behind =
    ap (λ xs. tilde ∷ 0x30 ∷ xs) (before_slash-token token name pointer names is behind)
before_slash-token _ _ pointer names (IsToken.tilde_one token name is) behind =
    ap (λ xs. tilde ∷ 0x31 ∷ xs) (before_slash-token token name pointer names is behind)

-- The first i bytes have no slash.
abbrev pub IsBefore : List ℕ → ℕ → Type 0
IsBefore text i = before_slash text ≡ take i text ++ before_slash (drop i text)
