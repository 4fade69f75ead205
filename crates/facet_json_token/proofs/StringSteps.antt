-- The first wrong byte of a content, after a run that escapes nothing, after an escape, and where one stands.
use Rattle.std.proofs.Common.{◌≡◌, ℕ, zero, suc, ◌+◌, ◌-◌, ◌<◌, ◌≤◌, Bool, true, false, cond, ◌==◌, nat_le, List, [], ◌∷◌, length, take, drop, get_or, slice_range, Option, Some, None, Err, refl, sym, ap, ◌∙◌, arith, length-drop, drop-cons}
use Rattle.std.proofs.lemmas.List.{drop-drop, get_or-drop, get_or-take}
use Rattle.std.proofs.lemmas.List.Sums.{prefix_len_stops}
use Rattle.facet_json_token.specs.Token.{unexpected_char}
use Rattle.facet_json_token.specs.StrictViews.{IsWrong, byte_fault}
use Rattle.facet_json_token.specs.Views.{cut_of}
use Rattle.std.specs.List.{prefix_len}
use Rattle.std.specs.Option.{option_map}
use Rattle.std.proofs.lemmas.Bool.Decides.{nat_tests}
use Rattle.facet_format.specs.Bytes.{backslash}
use Rattle.facet_json_token.specs.GapLen.{one_more}
use Rattle.facet_json_token.specs.Inner.RfcWindow.{is_rfc_plain}
use Rattle.facet_json_token.specs.Strict.{may_stand, wrong_at, content_fault}

-- so many bytes later
abbrev pub later : ℕ → Option ℕ → Option ℕ
later k o = option_map (λ n. k + n) o

pub later-zero : (o : Option ℕ) → o ≡ later 0 o
later-zero None = refl
later-zero (Some n) = ap Some (omega arith)

pub later-suc : (k : ℕ) (o : Option ℕ) → one_more (later k o) ≡ later (suc k) o
later-suc k None = refl
later-suc k (Some n) = ap Some (omega arith)

pub later-later : (j k : ℕ) (o : Option ℕ) → later j (later k o) ≡ later (j + k) o
later-later j k None = refl
later-later j k (Some n) = ap Some (omega arith)

-- A byte that a run goes on through may stand there, and is no backslash.
plain_stands : (b : ℕ) → is_rfc_plain b ≡ true → (nat_le 0x20 b ≡ true) × ((b == backslash) ≡ false)
plain_stands b e = (grind (arith, nat_tests), grind (arith, nat_tests))

-- ---- a run

-- After bytes that escape nothing the first wrong byte is the one of what follows them.
pub wrong-run : (k m : ℕ) (xs : List ℕ) → k ≤ prefix_len is_rfc_plain xs → wrong_at false (take (k + m) xs) ≡ later k (wrong_at false (take m (drop k xs)))
wrong-run zero m xs h = let none : 0 + m ≡ m = omega arith in rw none (later-zero (wrong_at false (take m xs)))
wrong-run (suc k) m [] h = absurd (omega arith)
wrong-run (suc k) m (b ∷ xs) h =
    run-step k m b xs (is_rfc_plain b) refl h (λ less. wrong-run k m xs less)
  where
    run-step : (k m b : ℕ) (xs : List ℕ) (is : Bool) → is_rfc_plain b ≡ is → suc k ≤ cond is (1 + prefix_len is_rfc_plain xs) 0 →
        (k ≤ prefix_len is_rfc_plain xs → wrong_at false (take (k + m) xs) ≡ later k (wrong_at false (take m (drop k xs)))) →
        wrong_at false (take (suc k + m) (b ∷ xs)) ≡ later (suc k) (wrong_at false (take m (drop (suc k) (b ∷ xs))))
    run-step k m b xs false e h more = absurd (omega arith)
    run-step k m b xs true e h more =
        let stands = plain_stands b e in
        let next : suc k + m ≡ suc (k + m) = omega arith in
        rw (next, stands.0, stands.1) (ap one_more (more (omega arith)) ∙ later-suc k (wrong_at false (take m (drop k xs))))

-- ---- a byte that is wrong, and an escape

-- A byte below 0x20 that no backslash escapes is wrong.
pub wrong-control : (b : ℕ) (xs : List ℕ) → nat_le 0x20 b ≡ false → wrong_at false (b ∷ xs) ≡ Some 0
wrong-control b xs e = rw e refl

-- So is the byte after a backslash, where it may not stand there.
pub wrong-escaped : (b : ℕ) (xs : List ℕ) → may_stand true b ≡ false → wrong_at false (backslash ∷ b ∷ xs) ≡ Some 1
wrong-escaped b xs e = rw e refl

two-later : (o : Option ℕ) → one_more (one_more o) ≡ later 2 o
two-later None = refl
two-later (Some n) = ap Some (omega arith)

-- After an escape the first wrong byte is the one of what follows it.
pub wrong-after : (b : ℕ) (xs : List ℕ) → may_stand true b ≡ true → wrong_at false (backslash ∷ b ∷ xs) ≡ later 2 (wrong_at false xs)
wrong-after b xs e = rw e (two-later (wrong_at false xs))

-- ---- slices of a buffer

module _ (buf : List ℕ) (end : ℕ) (fits : end ≤ length buf) where
  -- where the first wrong byte of what is left stands, if there is one
  abbrev pub wrong_from : ℕ → Option ℕ
  wrong_from at = later at (wrong_at false (slice_range buf at end))

  -- It is the same after a run.
  pub from-run : (at stop : ℕ) → at ≤ stop → stop ≤ end → stop ≤ at + prefix_len is_rfc_plain (drop at buf) → wrong_from at ≡ wrong_from stop
  from-run at stop le in_slice run =
      let k = stop - at in
      let m = end - stop in
      let parts : end - at ≡ k + m = omega arith in
      let there : at + k ≡ stop = omega arith in
      let step = wrong-run k m (drop at buf) (omega arith) in
      let rest : drop k (drop at buf) ≡ drop stop buf = drop-drop k at buf ∙ ap (λ n. drop n buf) (omega arith) in
      ap (λ n. later at (wrong_at false (take n (drop at buf)))) parts
      ∙ ap (later at) step
      ∙ later-later at k _
      ∙ ap (λ n. later n (wrong_at false (take m (drop k (drop at buf))))) there
      ∙ ap (λ xs. later stop (wrong_at false (take m xs))) rest

  -- What is left begins with its first byte.
  pub head : (at : ℕ) → at < end → slice_range buf at end ≡ get_or buf at 0 ∷ slice_range buf (suc at) end
  head at less =
      let n : end - at ≡ suc (end - suc at) = omega arith in
      ap (λ xs. take (end - at) xs) (drop-cons buf at 0 (omega arith)) ∙ ap (λ k. take k (get_or buf at 0 ∷ drop (suc at) buf)) n

  pub none-left : (at : ℕ) → at ≡ end → wrong_from at ≡ None
  none-left at e = let none : end - at ≡ 0 = omega arith in ap (λ n. later at (wrong_at false (take n (drop at buf)))) none

  pub from-control : (at : ℕ) → at < end → nat_le 0x20 (get_or buf at 0) ≡ false → wrong_from at ≡ Some at
  from-control at less low =
      ap (λ xs. later at (wrong_at false xs)) (head at less) ∙ ap (later at) (wrong-control _ _ low) ∙ ap Some (omega arith)

  pub from-lone : (at : ℕ) → get_or buf at 0 ≡ backslash → at + 1 ≡ end → wrong_from at ≡ None
  from-lone at is last =
      let none : end - suc at ≡ 0 = omega arith in
      let rest : slice_range buf (suc at) end ≡ [] = ap (λ n. take n (drop (suc at) buf)) none in
      ap (λ xs. later at (wrong_at false xs)) (head at (omega arith) ∙ ap (λ b. b ∷ slice_range buf (suc at) end) is ∙ ap (λ xs. backslash ∷ xs) rest)

  escape : (at : ℕ) → get_or buf at 0 ≡ backslash → suc at < end →
      slice_range buf at end ≡ backslash ∷ get_or buf (suc at) 0 ∷ slice_range buf (suc (suc at)) end
  escape at is less = head at (omega arith) ∙ ap (λ b. b ∷ slice_range buf (suc at) end) is ∙ ap (λ xs. backslash ∷ xs) (head (suc at) less)

  pub from-escaped : (at : ℕ) → get_or buf at 0 ≡ backslash → suc at < end → may_stand true (get_or buf (suc at) 0) ≡ false → wrong_from at ≡ Some (suc at)
  from-escaped at is less bad =
      ap (λ xs. later at (wrong_at false xs)) (escape at is less) ∙ ap (later at) (wrong-escaped (get_or buf (suc at) 0) (slice_range buf (suc (suc at)) end) bad) ∙ ap Some (omega arith)

  pub from-after : (at : ℕ) → get_or buf at 0 ≡ backslash → suc at < end → may_stand true (get_or buf (suc at) 0) ≡ true →
      wrong_from at ≡ wrong_from (suc (suc at))
  from-after at is less good =
      let two : at + 2 ≡ suc (suc at) = omega arith in
      ap (λ xs. later at (wrong_at false xs)) (escape at is less) ∙ ap (later at) (wrong-after (get_or buf (suc at) 0) (slice_range buf (suc (suc at)) end) good) ∙ later-later at 2 _
      ∙ ap (λ n. later n (wrong_at false (slice_range buf (suc (suc at)) end))) two

  -- ---- what is answered

  pub none-wrong : (start : ℕ) → wrong_from start ≡ None → content_fault start (slice_range buf start end) ≡ None
  none-wrong start e = by (wrong_at false (slice_range buf start end)) refl e
    where
      by : (o : Option ℕ) → wrong_at false (slice_range buf start end) ≡ o → later start o ≡ None → content_fault start (slice_range buf start end) ≡ None
      by None is f = ap (option_map _) is
      by (Some n) is f = cc

  byte-there : (start n : ℕ) → start + n < end → get_or (slice_range buf start end) n 0 ≡ get_or buf (start + n) 0
  byte-there start n less = get_or-take (end - start) (drop start buf) n 0 (omega arith) ∙ get_or-drop start buf n 0

  pub tells : (start at : ℕ) → at < end → wrong_from start ≡ Some at → IsWrong (slice_range buf start end) start (cut_of (Err (byte_fault (get_or buf at 0) at)))
  tells start at less e = by (wrong_at false (slice_range buf start end)) refl e
    where
      by : (o : Option ℕ) → wrong_at false (slice_range buf start end) ≡ o → later start o ≡ Some at →
          IsWrong (slice_range buf start end) start (cut_of (Err (byte_fault (get_or buf at 0) at)))
      by None is f = cc
      by (Some n) is f =
          let there : start + n ≡ at = cc in
          let byte = byte-there start n (omega arith) ∙ ap (λ k. get_or buf k 0) there in
          record {
            what = record { kind = unexpected_char (get_or (slice_range buf start end) n 0); span = record { offset = start + n; len = 1 } };
            wrong = ap (option_map _) is;
            told = rw (byte, there) refl;
          }

-- ---- where a run ends

-- Where a run ends before the content does, its next byte escapes something, or may not stand there.
pub stop-there : (buf : List ℕ) (at stop : ℕ) → stop < length buf → at ≤ stop → stop ≡ at + prefix_len is_rfc_plain (drop at buf) →
    is_rfc_plain (get_or buf stop 0) ≡ false
stop-there buf at stop less le e =
    let n = prefix_len is_rfc_plain (drop at buf) in
    let short : n < length (drop at buf) = omega (arith, length-drop at buf) in
    ap is_rfc_plain (ap (λ k. get_or buf k 0) e ∙ sym (get_or-drop at buf n 0)) ∙ prefix_len_stops is_rfc_plain (drop at buf) 0 short

pub control-there : (b : ℕ) → is_rfc_plain b ≡ false → (b == backslash) ≡ false → nat_le 0x20 b ≡ false
control-there b e n = grind (arith, nat_tests)
