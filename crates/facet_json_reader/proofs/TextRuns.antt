-- A run of bytes up to a quote is a text: it holds no escape and no byte below the bound, and is UTF-8 where it is ASCII.
use Rattle.std.proofs.Common.{◌≡◌, ℕ, zero, suc, ◌+◌, ◌-◌, ◌≤◌, Bool, true, false, not, ◌&&◌, cond, inl, inr, List, [], ◌∷◌, take, drop, get_or, slice_get, Some, refl, sym, ap, ◌∙◌, arith}
use Rattle.std.specs.Prelude.{◌==◌, nat_le, nat_lt, slice_range, IsUtf8}
use Rattle.std.specs.List.{list_all, prefix_len}
use Rattle.std.specs.Option.{option_map}
use Rattle.std.proofs.lemmas.Bool.{and_from, le-leb, ltb-false, not-true, not_from_false, or_parts, cases_lt}
use Rattle.std.proofs.lemmas.List.{get_or-drop}
use Rattle.std.proofs.lemmas.List.Sums.{prefix_len_passes}
use Rattle.std.proofs.lemmas.Option.{get_or_from_slice_get, slice_get_within}
use Rattle.std.proofs.lemmas.Str.{IsUtf8-append}
use Rattle.facet_format.specs.Bytes.{quote, backslash}
use Rattle.facet_json_token.specs.Cut.{content_len, cut_here, opens_text, start_of, token_at}
use Rattle.facet_json_token.specs.Gap.{Mode}
use Rattle.facet_json_token.specs.Token.{string}
use Rattle.facet_json_token.specs.Inner.Window.{is_stop, is_plain}
use Rattle.facet_json_token.proofs.FirstBytes.{cut_here-by}
use Rattle.facet_json_token.proofs.TextSteps.{content-ends, cut_text-ends}
use Rattle.facet_json_token.proofs.TextWindows.{content-after_run, marks-of_run}
use Rattle.facet_json_token.specs.Inner.Ascii.{is_high, is_low}
use Rattle.facet_json_token.proofs.AsciiRuns.{run-IsUtf8}
use Rattle.facet_json_token.proofs.DecodeSteps.{range-append}
use Rattle.facet_json_reader.specs.Inner.Window.{is_stop_from, is_unescaped, is_mark, is_ordinary, ordinary-unescaped}
use Rattle.facet_json_reader.specs.Values.{IsClosedAt}

-- A run of bytes of a class is no longer than one of a wider class.
step : (a b : Bool) (m n : ℕ) → (a ≡ true → b ≡ true) → m ≤ n → cond a (1 + m) 0 ≤ cond b (1 + n) 0
step false b m n h le = omega arith
step true true m n h le = omega (arith, le)
step true false m n h le = let e = h refl in cc

run-wider : (p q : ℕ → Bool) → ((b : ℕ) → p b ≡ true → q b ≡ true) → (bytes : List ℕ) → prefix_len p bytes ≤ prefix_len q bytes
run-wider p q h [] = omega arith
run-wider p q h (b ∷ bytes) = step (p b) (q b) _ _ (h b) (run-wider p q h bytes)

-- Each byte of such a run is of the wider class.
run-all : (p q : ℕ → Bool) → ((b : ℕ) → p b ≡ true → q b ≡ true) → (n : ℕ) (bytes : List ℕ) → n ≤ prefix_len p bytes →
    list_all q (take n bytes) ≡ true
run-all p q h zero bytes le = refl
run-all p q h (suc n) [] le = refl
run-all p q h (suc n) (b ∷ bytes) le = by (p b) refl le (run-all p q h n bytes)
  where
    by : (t : Bool) → p b ≡ t → suc n ≤ cond t (1 + prefix_len p bytes) 0 → (n ≤ prefix_len p bytes → list_all q (take n bytes) ≡ true) →
        list_all q (take (suc n) (b ∷ bytes)) ≡ true
    by true is le rest = and_from _ _ (h b is) (rest (omega (arith, le)))
    by false is le rest = absurd (omega (arith, le))

-- A byte that may stand in a text unescaped is plain.
unescaped-plain : (least b : ℕ) → is_unescaped least b ≡ true → is_plain b ≡ true
unescaped-plain least b e = not_from_false (is_stop b) (or_parts (is_stop b) (nat_lt b least) (not-true (is_stop_from least b) e)).0

-- It is no backslash, and no less than the bound.
unescaped-stands : (least b : ℕ) → is_unescaped least b ≡ true → (not (b == backslash) && nat_le least b) ≡ true
unescaped-stands least b e =
    let neither = or_parts (is_stop b) (nat_lt b least) (not-true (is_stop_from least b) e) in
    let no_end = or_parts (b == quote) (b == backslash) neither.0 in
    and_from _ _ (not_from_false (b == backslash) no_end.1) (le-leb least b (ltb-false b least neither.1))

-- An ordinary byte is ASCII.
ordinary-low : (least b : ℕ) → is_ordinary least b ≡ true → is_low b ≡ true
ordinary-low least b e = not_from_false (is_high b) (or_parts (is_stop_from least b) (is_high b) (not-true (is_mark least b) e)).1

-- A run of ordinary bytes is UTF-8.
pub run-text : (least : ℕ) (buffer : List ℕ) (start end : ℕ) → end ≡ start + prefix_len (is_ordinary least) (drop start buffer) →
    IsUtf8 (slice_range buffer start end)
run-text least buffer start end is =
    let wider = run-wider (is_ordinary least) is_low (ordinary-low least) (drop start buffer) in
    run-IsUtf8 buffer start end (le-leb end (start + prefix_len is_low (drop start buffer)) (omega (arith, is, wider)))

-- No more bytes are ordinary than may stand in a text unescaped.
pub ordinary-wider : (least : ℕ) (bytes : List ℕ) → prefix_len (is_ordinary least) bytes ≤ prefix_len (is_unescaped least) bytes
ordinary-wider least bytes = run-wider (is_ordinary least) (is_unescaped least) (ordinary-unescaped least) bytes

-- A run of ordinary bytes before UTF-8 is UTF-8 with it.
pub ordinary-before : (least : ℕ) (buffer : List ℕ) (start from finish : ℕ) →
    from ≡ start + prefix_len (is_ordinary least) (drop start buffer) → from ≤ finish → IsUtf8 (slice_range buffer from finish) → IsUtf8 (slice_range buffer start finish)
ordinary-before least buffer start from finish is ordered rest =
    rw (range-append buffer start from finish (omega (arith, is)) ordered)
    (IsUtf8-append (slice_range buffer start from) (slice_range buffer from finish) (run-text least buffer start from is) rest)

-- The string of a quote and the quote that ends the run of plain bytes after it holds no escape.
text-cut : (mode : Mode) (buffer : List ℕ) (at end : ℕ) → slice_get buffer at ≡ Some quote → slice_get buffer end ≡ Some quote →
    end ≡ (at + 1) + prefix_len is_plain (drop (at + 1) buffer) →
    cut_here mode at (drop at buffer) ≡ token_at (string (at + 1) end false) at ((end + 1) - at)
unfolding start_of
text-cut mode buffer at end opens closes run =
    let rest = drop (at + 1) buffer in
    let found : Some end ≡ option_map (λ n. (at + 1) + n) (content_len false rest) =
    content-ends buffer end closes ∙ content-after_run buffer (at + 1) end run in
    sym (cut_text-ends at end rest false (content_len false rest) found (marks-of_run buffer (at + 1) end run)
    ∙ cut_here-by mode buffer at quote opens_text opens refl)

-- After the quote at an offset a run of bytes that may stand in a text unescaped goes up to a quote, which closes it.
module _ (least : ℕ) (p : ℕ → Bool) (unescaped : (b : ℕ) → p b ≡ true → is_unescaped least b ≡ true)
    (buffer : List ℕ) (at finish : ℕ) (run : finish ≡ (at + 1) + prefix_len p (drop (at + 1) buffer)) (closes : slice_get buffer finish ≡ Some quote) where
  -- It ends the run of plain bytes.
  plain-end : finish ≡ (at + 1) + prefix_len is_plain (drop (at + 1) buffer)
  plain-end =
      let rest = drop (at + 1) buffer in
      let n = prefix_len p rest in
      let wider = run-wider p is_plain (λ b e. unescaped-plain least b (unescaped b e)) rest in
      elim (cases_lt n (prefix_len is_plain rest)) [
        | inl more ↦
            let there : get_or rest n 0 ≡ quote =
            get_or-drop (at + 1) buffer n 0 ∙ ap (λ (k : ℕ). get_or buffer k 0) (sym run) ∙ get_or_from_slice_get buffer finish quote 0 closes in
            let passes : is_plain quote ≡ true = ap is_plain (sym there) ∙ prefix_len_passes is_plain rest n 0 more in
            cc
        | inr all ↦ omega (arith, run, wider, all)
      ]

  pub run-IsClosedAt : slice_get buffer at ≡ Some quote → IsClosedAt least buffer at finish
  run-IsClosedAt opens = record {
    cut = λ mode. text-cut mode buffer at finish opens closes plain-end;
    plain = sym (marks-of_run buffer (at + 1) finish plain-end);
    unescaped = run-all p (λ b. not (b == backslash) && nat_le least b) (λ b e. unescaped-stands least b (unescaped b e))
        (finish - (at + 1)) (drop (at + 1) buffer) (omega (arith, run));
    closes = closes;
    ordered = omega (arith, run);
    within = omega (arith, slice_get_within buffer finish quote closes);
  }

-- Ordinary bytes up to a quote are the text of the string that it closes.
pub ordinary-IsClosedAt : (least : ℕ) (buffer : List ℕ) (at finish : ℕ) →
    finish ≡ (at + 1) + prefix_len (is_ordinary least) (drop (at + 1) buffer) →
    slice_get buffer finish ≡ Some quote → slice_get buffer at ≡ Some quote → IsClosedAt least buffer at finish
ordinary-IsClosedAt least buffer at finish run closes opens =
    run-IsClosedAt least (is_ordinary least) (ordinary-unescaped least) buffer at finish run closes opens
