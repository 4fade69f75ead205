-- The bytes of a block that need no look are passed.
use Rattle.std.proofs.Common.{◌≡◌, ℕ, zero, suc, ◌+◌, ◌<◌, ◌≤◌, Bool, true, false, not, ◌==◌, ◌&&◌, ◌||◌, List, length, slice_get, get_or, Some, refl, sym, ap, subst, ◌∙◌, arith, inl, inr}
use Rattle.std.proofs.lemmas.Bool.{cases_Bool, eqb-true, or_parts}
use Rattle.std.proofs.lemmas.Bool.Decides.{nat_tests}
use Rattle.std.proofs.lemmas.Option.{slice_get-get_or}
use Rattle.facet_format.specs.Bytes.{quote, backslash}
use Rattle.facet_json_token.specs.Gap.{Mode}
use Rattle.facet_json_parser.specs.Inner.Marks.{xor, inside, is_quote, is_backslash, is_calm, is_hard, is_marked}
use Rattle.facet_json_parser.specs.Inner.Passing.{IsPassed}
use Rattle.facet_json_parser.proofs.PassedBytes.{quote-opens, quote-closes, calm-passed, text-passed, escape-passed}

calm_from : (c : Bool) → not (c || false) ≡ false → c ≡ true
calm_from true e = refl
calm_from false e = cc

behind_backslash : (s x : Bool) → s ≡ true → (s && x) ≡ false → x ≡ false
behind_backslash true x e h = h
behind_backslash false x e h = cc

below_last : (i : ℕ) → i < 64 → (i == 63) ≡ false → suc i < 64
below_last i h e = grind (arith, nat_tests)

module _ (buffer : List ℕ) (mode : Mode) (settled at : ℕ) (within : Bool) (v : List ℕ) (room : at + 64 ≤ length buffer)
    (same : (i : ℕ) → i < 64 → get_or v i 0 ≡ get_or buffer (at + i) 0) where
  pub here : (i : ℕ) → i < 64 → slice_get buffer (at + i) ≡ Some (get_or v i 0)
  here i h = slice_get-get_or buffer (at + i) 0 (omega (arith, room)) ∙ ap Some (sym (same i h))

  abbrev Passed : ℕ → Bool → Type 0
  Passed at w = IsPassed buffer mode settled at w

  in_text : (i : ℕ) → i < 64 → is_hard v i ≡ false → Passed (at + i) true → is_quote (get_or v i 0) ≡ false → Passed (at + i + 1) true
  in_text i h hard p q = elim (cases_Bool (is_backslash (get_or v i 0))) [
    | inr s ↦ text-passed buffer mode settled (at + i) (get_or v i 0) p (here i h) q s
    | inl s ↦
        let next = get_or v (suc i) 0 in
        let all = or_parts (is_quote next || is_backslash next) (i == 63) (behind_backslash (is_backslash (get_or v i 0)) ((is_quote next || is_backslash next) || (i == 63)) s hard) in
        let both = or_parts (is_quote next) (is_backslash next) all.0 in
        let inner : suc i < 64 = below_last i h all.1 in
        let e : at + suc i ≡ at + i + 1 = omega arith in
        escape-passed buffer mode settled (at + i) next p (here i h ∙ ap Some (eqb-true _ backslash s)) (ap (slice_get buffer) (sym e) ∙ here (suc i) inner) both.0 both.1
  ]

  step : (i : ℕ) (w : Bool) → i < 64 → not (is_calm (get_or v i 0) || xor w (is_quote (get_or v i 0))) ≡ false → is_hard v i ≡ false →
      Passed (at + i) w → Passed (at + i + 1) (xor w (is_quote (get_or v i 0)))
  step i true h calm hard p = elim (cases_Bool (is_quote (get_or v i 0))) [
    | inl q ↦ rw q (quote-closes buffer mode settled (at + i) p (here i h ∙ ap Some (eqb-true _ quote q)))
    | inr q ↦ rw q (in_text i h hard p q)
  ]
  step i false h calm hard p = elim (cases_Bool (is_quote (get_or v i 0))) [
    | inl q ↦ rw q (quote-opens buffer mode settled (at + i) p (here i h ∙ ap Some (eqb-true _ quote q)))
    | inr q ↦ rw q (calm-passed buffer mode settled (at + i) (get_or v i 0) p (here i h) (calm_from (is_calm (get_or v i 0)) (sym (ap (λ x. not (is_calm (get_or v i 0) || x)) q) ∙ calm)) q)
  ]

  -- An unmarked byte is passed.
  pub unmarked-passed : (i : ℕ) → i < 64 → is_marked within v i ≡ false → IsPassed buffer mode settled (at + i) (inside within v i) →
      IsPassed buffer mode settled (at + suc i) (inside within v (suc i))
  unfolding inside
  unmarked-passed i h m p =
      let all = or_parts (not (is_calm (get_or v i 0) || xor (inside within v i) (is_quote (get_or v i 0)))) (is_hard v i) m in
      let e : at + i + 1 ≡ at + suc i = omega arith in
      subst (λ n. IsPassed buffer mode settled n (inside within v (suc i))) e (step i (inside within v i) h all.0 all.1 p)

  -- So is a run of them.
  pub run-passed : (i k : ℕ) → i + k ≤ 64 → ((n : ℕ) → i ≤ n → n < i + k → is_marked within v n ≡ false) →
      IsPassed buffer mode settled (at + i) (inside within v i) → IsPassed buffer mode settled (at + (i + k)) (inside within v (i + k))
  run-passed i zero h clear p =
      let e : i ≡ i + zero = omega arith in
      subst (λ n. IsPassed buffer mode settled (at + n) (inside within v n)) e p
  run-passed i (suc k) h clear p =
      let e : suc (i + k) ≡ i + suc k = omega arith in
      let before = run-passed i k (omega (arith, h)) (λ n low high. clear n low (omega (arith, high))) p in
      subst (λ n. IsPassed buffer mode settled (at + n) (inside within v n)) e
      (unmarked-passed (i + k) (omega (arith, h)) (clear (i + k) (omega arith) (omega arith)) before)
