-- A text is cut at the first byte of a kind in one way.
use Rattle.std.proofs.Common.{◌≡◌, ◌≢◌, ℕ, suc, ◌<◌, List, [], ◌∷◌, ◌++◌, length, get_or, drop, refl, sym, ap, ◌∙◌, arith}

-- the text has no such byte
abbrev pub Lacks : ℕ → List ℕ → Type 0
Lacks byte [] = Unit {0}
Lacks byte (b ∷ text) = (b ≢ byte) × Lacks byte text

pub lacks_each : (byte : ℕ) (text : List ℕ) → ((i : ℕ) → i < length text → get_or text i 0 ≢ byte) → Lacks byte text
lacks_each byte [] none = tt
lacks_each byte (b ∷ text) none =
    (none 0 (omega arith), lacks_each byte text (λ i below. none (suc i) (omega (arith, below))))

pub same_head : (a b : ℕ) (xs ys : List ℕ) → a ∷ xs ≡ b ∷ ys → a ≡ b
same_head a b xs ys same = ap (λ l. get_or l 0 0) same

pub same_tail : {X : Type 0} (a b : X) (xs ys : List X) → a ∷ xs ≡ b ∷ ys → xs ≡ ys
same_tail a b xs ys same = ap (drop 1) same

pub one_cut : (byte : ℕ) (a b c d : List ℕ) → Lacks byte a → Lacks byte c → a ++ (byte ∷ b) ≡ c ++ (byte ∷ d) → (a ≡ c) × (b ≡ d)
one_cut byte [] b [] d la lc same = (refl, same_tail byte byte b d same)
one_cut byte [] b (y ∷ c) d la lc same = absurd (lc.0 (sym (same_head byte y b (c ++ (byte ∷ d)) same)))
one_cut byte (x ∷ a) b [] d la lc same = absurd (la.0 (same_head x byte (a ++ (byte ∷ b)) d same))
one_cut byte (x ∷ a) b (y ∷ c) d la lc same =
    let rest = one_cut byte a b c d la.1 lc.1 (same_tail x y (a ++ (byte ∷ b)) (c ++ (byte ∷ d)) same) in
    let first = same_head x y (a ++ (byte ∷ b)) (c ++ (byte ∷ d)) same in
    (ap (λ z. z ∷ a) first ∙ ap (λ l. y ∷ l) rest.0, rest.1)

-- a text that has the byte does not lack it
pub has_byte : (byte : ℕ) (a b : List ℕ) → Lacks byte (a ++ (byte ∷ b)) → ⊥
has_byte byte [] b lacks = lacks.0 refl
has_byte byte (x ∷ a) b lacks = has_byte byte a b lacks.1

pub lacks_both : (byte : ℕ) (a b : List ℕ) → Lacks byte a → Lacks byte b → Lacks byte (a ++ b)
lacks_both byte [] b la lb = lb
lacks_both byte (x ∷ a) b la lb = (la.0, lacks_both byte a b la.1 lb)
