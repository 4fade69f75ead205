-- What is found after a gap, from what is found where it ends.
use Rattle.std.proofs.Common.{◌≡◌, ℕ, zero, suc, ◌+◌, ◌≤◌, ◌<◌, Bool, true, false, cond, List, [], ◌∷◌, ◌++◌, length, drop, Some, refl, sym, ap, ◌∙◌, subst, arith}
use Rattle.std.proofs.lemmas.List.{append-nil, drop-drop, length-drop}
use Rattle.facet_json_scan.specs.declared.scanner.token.Found.{Found}
use Rattle.facet_json_scan.specs.declared.scanner.token.Found.TheVariants as found
use Rattle.facet_format.specs.Bytes.{is_space}
use Rattle.facet_json_token.specs.Gap.{Mode, plain, whole, growing}
use Rattle.facet_json_token.specs.GapLen.{piece_len, gap_len}
use Rattle.facet_json_token.specs.Cut.{cut, cut_here, past_gap}
use Rattle.facet_json_token.specs.Open.{IsBeginning, IsOpen}
use Rattle.facet_json_scan.specs.Scanner.{Describes, answer_for, past_growing_gap}
use Rattle.facet_json_scan.specs.Inner.Found.{FoundHere, FoundFrom, state_of}
use Rattle.facet_json_token.proofs.GapSteps.{past_gap-piece}
use Rattle.facet_json_token.proofs.Gaps.{piece_len-blank, gap_len-none, gap_len-some, gap_len-piece, gap_len-bound}
use Rattle.facet_json_scan.proofs.Segments.{between, between-rest}
use Rattle.facet_json_scan.proofs.Growth.GrowthOfGap.{piece_len-keeps}
use Rattle.facet_json_scan.proofs.Growth.GrowthOfCut.{past_gap-stays}

-- Where no piece stands, the growing gap ends.
pub growing_gap-none : (mode : Mode) (buffer : List ℕ) (p : ℕ) → piece_len mode growing (drop p buffer) ≡ 0 →
    past_growing_gap buffer p mode ≡ p
growing_gap-none mode buffer p e = omega (arith, gap_len-none mode growing (drop p buffer) e)

-- Where the buffer isn't open, the gap of the whole input ends where that of the growing one does.
pub same_gap : (mode : Mode) (buffer : List ℕ) (p : ℕ) → p ≤ length buffer → (IsOpen buffer p mode → ⊥) →
    past_gap buffer p mode ≡ past_growing_gap buffer p mode
same_gap mode buffer p room shut = rw append-nil at (past_gap-stays buffer [] p mode room shut (λ e. refl))

-- Where no piece stands, it is found there.
pub found-no_gap : (mode : Mode) (buffer : List ℕ) (p : ℕ) (f : Found) → p ≤ length buffer →
    piece_len mode growing (drop p buffer) ≡ 0 → FoundHere mode buffer p f → FoundFrom mode buffer p f
unfolding cut
found-no_gap mode buffer p (found.Answer at result) room none h =
    let q = growing_gap-none mode buffer p none in
    let shut : IsOpen buffer p mode → ⊥ = λ i. h.2 (subst (λ n. IsBeginning mode (drop n buffer)) q i) in
    let past : past_gap buffer p mode ≡ p = same_gap mode buffer p room shut ∙ q in (
      h.0 ∙ sym past,
      h.1 ∙ ap (λ n. Some (answer_for (length buffer) (cut_here mode n (drop n buffer)))) (sym past),
      shut,
    )
found-no_gap mode buffer p (found.Open at s) room none h =
    let q = growing_gap-none mode buffer p none in
    (h.0 ∙ sym q, subst (λ n. Describes mode (state_of s) (drop n buffer)) (sym q) h.1)

-- The same where what stands up to a later offset is known.
pub found-goes_on : (mode : Mode) (buffer : List ℕ) (start at : ℕ) (f : Found) → start ≤ at → at ≤ length buffer →
    piece_len mode growing (between buffer start at ++ drop at buffer) ≡ 0 → FoundHere mode buffer start f → FoundFrom mode buffer start f
found-goes_on mode buffer start at f order room none =
    found-no_gap mode buffer start f (omega arith) (ap (piece_len mode growing) (between-rest buffer start at order room) ∙ none)

-- After a piece it is found from where the piece begins.
pub found-piece : (mode : Mode) (buffer : List ℕ) (p end : ℕ) (f : Found) → p < end → end ≤ length buffer →
    end ≡ p + piece_len mode growing (drop p buffer) → FoundFrom mode buffer end f → FoundFrom mode buffer p f
unfolding cut
found-piece mode buffer p end f some room e h = by_piece (piece_len mode growing (drop p buffer)) refl f h
  where
    growing_same : (n : ℕ) → piece_len mode growing (drop p buffer) ≡ n →
        past_growing_gap buffer end mode ≡ past_growing_gap buffer p mode
    growing_same n is =
        let there : end ≡ p + n = omega arith in
        let behind : gap_len mode growing (drop n (drop p buffer)) ≡ gap_len mode growing (drop end buffer) =
        ap (gap_len mode growing) (drop-drop n p buffer ∙ ap (λ k. drop k buffer) (sym there)) in
        let step = gap_len-piece mode growing n (drop p buffer) is (omega (arith, length-drop p buffer)) in
        omega arith

    whole_same : (n : ℕ) → piece_len mode growing (drop p buffer) ≡ suc n →
        past_gap buffer end mode ≡ past_gap buffer p mode
    whole_same n is =
        let there : end ≡ p + suc n = omega arith in
        let keeps : piece_len mode whole (drop p buffer) ≡ suc n =
        rw append-nil at (piece_len-keeps mode (drop p buffer) [] n is) in
        ap (λ k. past_gap buffer k mode) there ∙ past_gap-piece mode buffer p (suc n) (sym keeps) (omega arith)

    by_piece : (n : ℕ) → piece_len mode growing (drop p buffer) ≡ n → (f : Found) → FoundFrom mode buffer end f →
        FoundFrom mode buffer p f
    by_piece zero is g h = absurd (omega arith)
    by_piece (suc n) is (found.Answer at result) h =
        let grows = growing_same (suc n) is in
        let wholes = whole_same n is in
        (h.0 ∙ wholes, h.1 ∙ ap (λ n. Some (answer_for (length buffer) (cut_here mode n (drop n buffer)))) wholes, λ i. h.2 (subst (λ k. IsBeginning mode (drop k buffer)) (sym grows) i))
    by_piece (suc n) is (found.Open at s) h =
        let grows = growing_same (suc n) is in
        (h.0 ∙ grows, subst (λ k. Describes mode (state_of s) (drop k buffer)) grows h.1)

-- White space begins with a blank.
blank-first : (b : ℕ) (rest : List ℕ) (n : ℕ) → gap_len plain whole (b ∷ rest) ≡ suc n → (is_space b ≡ true) × (gap_len plain whole rest ≡ n)
blank-first b rest n e = by (is_space b) refl
  where
    by : (t : Bool) → is_space b ≡ t → (is_space b ≡ true) × (gap_len plain whole rest ≡ n)
    by true is =
        let step = gap_len-some plain whole b rest 0 (ap (λ v. cond v 1 0) is) in
        (is, omega (arith, step, e))
    by false is =
        let none = gap_len-none plain whole (b ∷ rest) (ap (λ v. cond v 1 0) is) in
        absurd (omega (arith, none, e))

no_bytes : (n : ℕ) → gap_len plain whole [] ≡ suc n → ⊥
no_bytes n e = omega (arith, gap_len-bound plain whole [], e)

-- After white space it is found from where that begins.
module _ (mode : Mode) (buffer : List ℕ) (f : Found) where
  -- from where white space of this length begins
  abbrev FromBlanks : ℕ → Type 0
  FromBlanks n = (q : ℕ) → q ≤ length buffer → gap_len plain whole (drop q buffer) ≡ n →
      FoundFrom mode buffer (q + gap_len plain whole (drop q buffer)) f → FoundFrom mode buffer q f

  one-blank : (n q : ℕ) (left : List ℕ) → q ≤ length buffer → drop q buffer ≡ left → gap_len plain whole left ≡ suc n →
      FoundFrom mode buffer (q + suc n) f → FromBlanks n → FoundFrom mode buffer q f
  one-blank n q [] room left e h others = absurd (no_bytes n e)
  one-blank n q (b ∷ rest) room left e h others =
      let first = blank-first b rest n e in
      let some : q < length buffer = omega (arith, length-drop q buffer, ap length left) in
      let after : drop (q + 1) buffer ≡ rest = sym (drop-drop 1 q buffer) ∙ ap (drop 1) left in
      let same : gap_len plain whole (drop (q + 1) buffer) ≡ n = ap (gap_len plain whole) after ∙ first.1 in
      let there : FoundFrom mode buffer ((q + 1) + gap_len plain whole (drop (q + 1) buffer)) f =
      subst (λ k. FoundFrom mode buffer k f) (omega (arith, same)) h in
      let one = ap (piece_len mode growing) left ∙ piece_len-blank mode growing b rest first.0 in
      found-piece mode buffer q (q + 1) f (omega arith) (omega (arith, some)) (omega (arith, one))
      (others (q + 1) (omega (arith, some)) same there)

  all-blanks : (n : ℕ) → FromBlanks n
  all-blanks zero q room e h = subst (λ k. FoundFrom mode buffer k f) (omega (arith, e)) h
  all-blanks (suc n) q room e h =
      one-blank n q (drop q buffer) room refl e (subst (λ k. FoundFrom mode buffer (q + k) f) e h) (all-blanks n)

  pub found-blanks : (p end : ℕ) → p ≤ length buffer → end ≡ past_gap buffer p plain → FoundFrom mode buffer end f → FoundFrom mode buffer p f
  found-blanks p end room e h = all-blanks (gap_len plain whole (drop p buffer)) p room refl (subst (λ k. FoundFrom mode buffer k f) e h)
