-- A text that begins well, and in which no tilde stands alone, is a pointer.
use Rattle.std.proofs.Common.{◌≡◌, ◌≢◌, ℕ, suc, Bool, true, false, ◌==◌, List, [], ◌∷◌, ◌++◌, Option, Some, None, option_map, refl, sym, ap, subst, ⊎_elim, if◌then◌else◌}
use Rattle.std.proofs.lemmas.Bool.{or_cases, eqb-true, cases_eq}
use Rattle.facet_format.specs.Bytes.{slash}
use Rattle.facet_json_tree.specs.Pointer.{tilde, IsToken, IsPointer, begins_pointer, zero_or_one, lone_tilde}
use Rattle.facet_json_tree.proofs.Pointers.{stands_alone, alone}

-- a token, and a pointer behind it
record Split (text : List ℕ) : Type 0 where
  token : List ℕ
  name : List ℕ
  pointer : List ℕ
  names : List (List ℕ)
  is_token : IsToken token name
  is_pointer : IsPointer pointer names
  whole : text ≡ token ++ pointer

split-plain : (b : ℕ) (text : List ℕ) → b ≢ slash → b ≢ tilde → Split text → Split (b ∷ text)
split-plain b text no_slash no_tilde s = record {
  token = b ∷ s.token;
  name = b ∷ s.name;
  pointer = s.pointer;
  names = s.names;
  is_token = IsToken.plain b s.token s.name no_slash no_tilde s.is_token;
  is_pointer = s.is_pointer;
  whole = ap (λ xs. b ∷ xs) s.whole;
}

split-slash : (text : List ℕ) → Split text → Split (slash ∷ text)
split-slash text s = record {
  token = [];
  name = [];
  pointer = slash ∷ s.token ++ s.pointer;
  names = s.name ∷ s.names;
  is_token = IsToken.empty;
  is_pointer = IsPointer.within s.token s.name s.pointer s.names s.is_token s.is_pointer;
  whole = ap (λ xs. slash ∷ xs) s.whole;
}

-- an escape, which stands for one character of the name
split-escaped : (code named : ℕ) (text : List ℕ) (s : Split text) → IsToken (tilde ∷ code ∷ s.token) (named ∷ s.name) → Split (tilde ∷ code ∷ text)
split-escaped code named text s is = record {
  token = tilde ∷ code ∷ s.token;
  name = named ∷ s.name;
  pointer = s.pointer;
  names = s.names;
  is_token = is;
  is_pointer = s.is_pointer;
  whole = ap (λ xs. tilde ∷ code ∷ xs) s.whole;
}

split-zero : (text : List ℕ) → Split text → Split (tilde ∷ 0x30 ∷ text)
split-zero text s = split-escaped 0x30 tilde text s (IsToken.tilde_zero s.token s.name s.is_token)

split-one : (text : List ℕ) → Split text → Split (tilde ∷ 0x31 ∷ text)
split-one text s = split-escaped 0x31 slash text s (IsToken.tilde_one s.token s.name s.is_token)

split-escape : (c : ℕ) (text : List ℕ) → zero_or_one (c ∷ text) ≡ true → Split text → Split (tilde ∷ c ∷ text)
split-escape c text escape s =
    ⊎_elim
    (λ (is : (c == 0x30) ≡ true). subst (λ (d : ℕ). Split (tilde ∷ d ∷ text)) (sym (eqb-true c 0x30 is)) (split-zero text s))
    (λ (is : (c == 0x31) ≡ true). subst (λ (d : ℕ). Split (tilde ∷ d ∷ text)) (sym (eqb-true c 0x31 is)) (split-one text s))
    (or_cases (c == 0x30) (c == 0x31) escape)

-- what a text without a lone tilde says of its first byte, and of the others
record FirstPassed (b : ℕ) (behind : List ℕ) : Type 0 where
  first : stands_alone b behind ≡ false
  others : lone_tilde behind ≡ None

by_test : (alone : Bool) (o : Option ℕ) → (if alone then Some 0 else option_map (λ k. suc k) o) ≡ None → (alone ≡ false) × (o ≡ None)
by_test true o e = cc
by_test false None e = (refl, refl)
by_test false (Some k) e = cc

first_passed : (b : ℕ) (behind : List ℕ) → lone_tilde (b ∷ behind) ≡ None → FirstPassed b behind
first_passed b behind none =
    let both = by_test (stands_alone b behind) (lone_tilde behind) none in
    record { first = both.0; others = both.1 }

-- Behind a tilde that isn't alone stands 0 or 1.
escapes : (b : ℕ) (behind : List ℕ) → b ≡ tilde → stands_alone b behind ≡ false → zero_or_one behind ≡ true
escapes b behind is_tilde not_alone = by (zero_or_one behind) refl
  where
    by : (z : Bool) → zero_or_one behind ≡ z → zero_or_one behind ≡ true
    by true e = e
    by false e = let is_alone = alone b behind is_tilde e in cc

-- A byte stands for itself, ends the token, or is a tilde.
by_first : (b : ℕ) (behind : List ℕ) → Split behind → (b ≡ tilde → Split (b ∷ behind)) → Split (b ∷ behind)
by_first b behind s escape =
    let other = λ (no_slash : b ≢ slash). ⊎_elim escape (λ (no_tilde : b ≢ tilde). split-plain b behind no_slash no_tilde s) (cases_eq b tilde) in
    ⊎_elim (λ (is : b ≡ slash). subst (λ (d : ℕ). Split (d ∷ behind)) (sym is) (split-slash behind s)) other (cases_eq b slash)

split : (text : List ℕ) → lone_tilde text ≡ None → Split text
split [] none = record { token = []; name = []; pointer = []; names = []; is_token = IsToken.empty; is_pointer = IsPointer.whole; whole = refl }
split (b ∷ []) none =
    let passed = first_passed b [] none in
    by_first b [] (split [] passed.others) (λ is. absurd (let escape = escapes b [] is passed.first in cc))
split (b ∷ c ∷ text) none =
    let passed = first_passed b (c ∷ text) none in
    let second = first_passed c text passed.others in
    let escaped = split text second.others in
    by_first b (c ∷ text) (split (c ∷ text) passed.others)
    (λ is. subst (λ (d : ℕ). Split (d ∷ c ∷ text)) (sym is) (split-escape c text (escapes b (c ∷ text) is passed.first) escaped))

-- the names that its tokens stand for
pub is_pointer : (text : List ℕ) → begins_pointer text ≡ true → lone_tilde text ≡ None → (names : List (List ℕ)) × IsPointer text names
is_pointer [] begun none = ([], IsPointer.whole)
is_pointer (b ∷ text) begun none =
    let s = split text (first_passed b text none).others in
    let at : slash ∷ s.token ++ s.pointer ≡ b ∷ text = let is = eqb-true b slash begun in let whole = s.whole in cc in (
      s.name ∷ s.names,
      subst (λ (xs : List ℕ). IsPointer xs (s.name ∷ s.names)) at
          (IsPointer.within s.token s.name s.pointer s.names s.is_token s.is_pointer),
    )
