-- A byte that needs no look is passed.
use Rattle.std.proofs.Common.{◌≡◌, ℕ, zero, suc, ◌+◌, ◌-◌, ◌<◌, ◌≤◌, Bool, true, false, ◌==◌, List, [], ◌∷◌, length, drop, slice_get, get_or, Some, refl, sym, ap, ◌∙◌, true≢false, arith, inl, inr}
use Rattle.std.proofs.lemmas.Bool.{or_right, cases_Bool, eqb-true, ne_eqb}
use Rattle.std.proofs.lemmas.Bool.Decides.{nat_tests}
use Rattle.std.proofs.lemmas.Option.{slice_get_within, slice_get-get_or, same_Some}
use Rattle.facet_format.specs.Bytes.{quote, backslash, dot, minus, slash, lower_e, upper_e, is_digit, is_exponent_mark, is_space}
use Rattle.facet_format.specs.Bytes as bytes
use Rattle.facet_format.specs.NumberParts.{parts, parts_len, is_bare, starts_number, digits_len, fraction_len, exponent_len}
use Rattle.facet_json_token.specs.Gap.{Mode, plain, jsonc, whole}
use Rattle.facet_json_token.specs.GapLen.{one_more, piece_len, gap_len}
use Rattle.facet_json_token.specs.Token.{comma, colon}
use Rattle.facet_json_token.specs.Cut.{cut_here, past_gap, content_len, cut_text}
use Rattle.facet_json_token.specs.Shape.{comma_stands, colon_stands}
use Rattle.facet_json_token.proofs.Gaps.{gap_len-none, piece_len-blank}
use Rattle.facet_json_token.proofs.GapSteps.{past_gap-piece}
use Rattle.facet_json_token.proofs.Offsets.{drop-at_byte}
use Rattle.facet_json_token.proofs.Starts.{start_of-number, number_byte}
use Rattle.facet_json_token.proofs.ShapesCut.{cut_here-text}
use Rattle.facet_json_reader.proofs.TokensThere.{number-cut}
use Rattle.facet_json_parser.specs.Inner.Quiet.{RunLeadsOn, EndsGap}
use Rattle.facet_json_parser.specs.Inner.Marks.{is_calm, is_quote, is_backslash}
use Rattle.facet_json_parser.specs.Inner.Passing.{farther, Outside, between, in_digits, InText, IsPassed}
use Rattle.facet_json_parser.proofs.QuietTokens.{leads_on-twice, leads_on-nowhere, gap-leads_on, token-leads_on, separator-leads_on}

-- Where a digit stands, a number begins.
begins : (b : ℕ) → is_digit b ≡ true → starts_number b ≡ true
begins b d = or_right (b == minus) (is_digit b) d

no_piece : (mode : Mode) (b : ℕ) (rest : List ℕ) → is_space b ≡ false → (b == slash) ≡ false → piece_len mode whole (b ∷ rest) ≡ 0
no_piece plain b rest s n = rw s refl
no_piece jsonc b [] s n = rw s refl
no_piece jsonc b (c ∷ rest) s n = rw (s, n) refl

-- how long a number goes on behind its first digits, of which the first n bytes are digits
abbrev after_fraction : ℕ → ℕ → List ℕ → ℕ
after_fraction n f bytes = f + exponent_len (drop (n + f) bytes)

abbrev after_digits : ℕ → List ℕ → ℕ
after_digits n bytes = n + after_fraction n (fraction_len (drop n bytes)) bytes

abbrev tail_len : List ℕ → ℕ
tail_len bytes = after_digits (digits_len bytes) bytes

after_digits-more : (n b : ℕ) (rest : List ℕ) → after_digits (suc n) (b ∷ rest) ≡ suc (after_digits n rest)
after_digits-more n b rest =
    let f = fraction_len (drop n rest) in
    let e : suc n + f ≡ suc (n + f) = omega arith in
    let same : exponent_len (drop (suc n + f) (b ∷ rest)) ≡ exponent_len (drop (n + f) rest) = ap (λ k. exponent_len (drop k (b ∷ rest))) e in
    omega (arith, same)

tail-digit : (b : ℕ) (rest : List ℕ) → is_digit b ≡ true → tail_len (b ∷ rest) ≡ suc (tail_len rest)
tail-digit b rest d =
    let n : digits_len (b ∷ rest) ≡ suc (digits_len rest) = rw d refl in
    ap (λ k. after_digits k (b ∷ rest)) n ∙ after_digits-more (digits_len rest) b rest

tail-none : (b : ℕ) (rest : List ℕ) → is_digit b ≡ false → (b == dot) ≡ false → is_exponent_mark b ≡ false → tail_len (b ∷ rest) ≡ 0
tail-none b rest d p e =
    let n : digits_len (b ∷ rest) ≡ 0 = rw d refl in
    let f : fraction_len (b ∷ rest) ≡ 0 = rw p refl in
    let x : exponent_len (b ∷ rest) ≡ 0 = rw e refl in
    ap (λ k. after_digits k (b ∷ rest)) n ∙ ap (λ k. 0 + after_fraction 0 k (b ∷ rest)) f ∙ omega (arith, x)

no_minus : (b : ℕ) → is_digit b ≡ true → (b == minus) ≡ false
no_minus b d = grind (arith, nat_tests)

abbrev whole_len : ℕ → List ℕ → ℕ
whole_len k bytes = k + fraction_len (drop k bytes) + exponent_len (drop (k + fraction_len (drop k bytes)) bytes)

whole_len-is : (k : ℕ) (bytes : List ℕ) → whole_len k bytes ≡ after_digits k bytes
whole_len-is k bytes = omega arith

digits-whole : (b : ℕ) (rest : List ℕ) → whole_len (0 + suc (digits_len rest)) (b ∷ rest) ≡ suc (tail_len rest)
digits-whole b rest =
    let e : 0 + suc (digits_len rest) ≡ suc (digits_len rest) = omega arith in
    ap (λ k. whole_len k (b ∷ rest)) e ∙ whole_len-is (suc (digits_len rest)) (b ∷ rest) ∙ after_digits-more (digits_len rest) b rest

pub uncalm-no_digit : (b : ℕ) → is_calm b ≡ false → is_digit b ≡ false
uncalm-no_digit b e = grind (arith, nat_tests)

-- the parts of a number that begins with a digit
pub digit-parts : (b : ℕ) (rest : List ℕ) → is_digit b ≡ true → (parts_len (parts (b ∷ rest)) ≡ suc (tail_len rest)) × (is_bare (parts (b ∷ rest)) ≡ false)
unfolding parts
digit-parts b rest d = rw (no_minus b d, d) (digits-whole b rest, ap (λ k. k == 0) (digits-whole b rest) ∙ ne_eqb (suc (tail_len rest)) 0 (λ e. omega (arith, e)))

module _ (buffer : List ℕ) (mode : Mode) where
  -- No gap stands before such a byte.
  ungapped : (at b : ℕ) → slice_get buffer at ≡ Some b → is_space b ≡ false → (b == slash) ≡ false → EndsGap buffer mode at
  ungapped at b here s n =
      let room = slice_get_within buffer at b here in
      let none : gap_len mode whole (drop at buffer) ≡ 0 =
      ap (gap_len mode whole) (drop-at_byte buffer at b here) ∙ gap_len-none mode whole (b ∷ drop (at + 1) buffer) (no_piece mode b _ s n) in
      record { from = at; fits = omega (arith, room); gap = omega (arith, none) }

  -- ---- numbers

  -- A digit begins a number as long as its parts.
  number-leads_on : (at b : ℕ) → slice_get buffer at ≡ Some b → is_digit b ≡ true → is_bare (parts (drop at buffer)) ≡ false →
      RunLeadsOn buffer mode at (at + parts_len (parts (drop at buffer)))
  number-leads_on at b here d more =
      let n = number_byte b (begins b d) in
      let room = slice_get_within buffer at b here in
      token-leads_on buffer mode at (parts_len (parts (drop at buffer))) _ _ (ungapped at b here n.0 n.1) (omega (arith, room)) refl (λ innermost around s. refl)
      (number-cut mode buffer at b _ (parts (drop at buffer)) _ here (start_of-number b (begins b d)) refl refl refl more)

  leads_on-back : (from by to : ℕ) → from ≤ by → by ≤ length buffer → RunLeadsOn buffer mode from to → RunLeadsOn buffer mode by to → RunLeadsOn buffer mode from by
  leads_on-back from by to h ends a b = record { past = h; ends = ends; same = λ kind around last. a.same kind around last ∙ sym (b.same kind around last) }

  -- A number that is a digit is passed.
  digit-ends : (at b c : ℕ) → slice_get buffer at ≡ Some b → slice_get buffer (at + 1) ≡ Some c → is_digit b ≡ true →
      is_digit c ≡ false → (c == dot) ≡ false → is_exponent_mark c ≡ false → RunLeadsOn buffer mode at (at + 1)
  digit-ends at b c here next d nd np ne =
      let q = digit-parts b (drop (at + 1) buffer) d in
      let e = drop-at_byte buffer at b here in
      let none : tail_len (drop (at + 1) buffer) ≡ 0 = ap tail_len (drop-at_byte buffer (at + 1) c next) ∙ tail-none c (drop (at + 1 + 1) buffer) nd np ne in
      let long : parts_len (parts (drop at buffer)) ≡ 1 = ap (λ l. parts_len (parts l)) e ∙ q.0 ∙ ap suc none in
      rw long at (number-leads_on at b here d (ap (λ l. is_bare (parts l)) e ∙ q.1))

  -- Of a number that goes on by a digit the first one is passed.
  digit-leads_on : (at b c : ℕ) → slice_get buffer at ≡ Some b → slice_get buffer (at + 1) ≡ Some c → is_digit b ≡ true → is_digit c ≡ true →
      RunLeadsOn buffer mode at (at + 1)
  digit-leads_on at b c here next d d' =
      let q = digit-parts b (drop (at + 1) buffer) d in
      let r = digit-parts c (drop (at + 1 + 1) buffer) d' in
      let e = drop-at_byte buffer at b here in
      let f = drop-at_byte buffer (at + 1) c next in
      let room = slice_get_within buffer (at + 1) c next in
      let long : parts_len (parts (drop at buffer)) ≡ suc (parts_len (parts (drop (at + 1) buffer))) =
      ap (λ l. parts_len (parts l)) e ∙ q.0 ∙ ap suc (ap tail_len f ∙ tail-digit c (drop (at + 1 + 1) buffer) d' ∙ sym (ap (λ l. parts_len (parts l)) f ∙ r.0)) in
      let first = number-leads_on at b here d (ap (λ l. is_bare (parts l)) e ∙ q.1) in
      let second = number-leads_on (at + 1) c next d' (ap (λ l. is_bare (parts l)) f ∙ r.1) in
      let to : at + parts_len (parts (drop at buffer)) ≡ at + 1 + parts_len (parts (drop (at + 1) buffer)) = omega (arith, long) in
      leads_on-back at (at + 1) _ (omega arith) (omega (arith, room)) (rw to at first) second

  -- ---- outside of texts

  -- What stands before a byte that goes on no number is passed.
  pub finish : (settled at b : ℕ) → Outside buffer mode settled at → slice_get buffer at ≡ Some b →
      is_digit b ≡ false → (b == dot) ≡ false → is_exponent_mark b ≡ false → RunLeadsOn buffer mode settled at
  finish settled at b (between on h) here d p e = on
  finish settled at b (in_digits last c is on digit dd) here d p e =
      let next : slice_get buffer (last + 1) ≡ Some b = ap (slice_get buffer) (sym is) ∙ here in
      rw (← is) at (leads_on-twice buffer mode settled last (last + 1) on (digit-ends last c b digit next dd d p e))

  -- A digit is passed.
  pub digit-passed : (settled at b : ℕ) → Outside buffer mode settled at → slice_get buffer at ≡ Some b → is_digit b ≡ true → Outside buffer mode settled (at + 1)
  digit-passed settled at b (between on h) here d = in_digits at b refl on here d
  digit-passed settled at b (in_digits last c is on digit dd) here d =
      let next : slice_get buffer (last + 1) ≡ Some b = ap (slice_get buffer) (sym is) ∙ here in
      in_digits at b refl (rw (← is) at (leads_on-twice buffer mode settled last (last + 1) on (digit-leads_on last c b digit next dd d))) here d

  -- Behind a token, which is no digit, all is passed.
  pub settled-there : (settled at b : ℕ) → RunLeadsOn buffer mode settled (at + 1) → slice_get buffer at ≡ Some b → is_digit b ≡ false → Outside buffer mode settled (at + 1)
  settled-there settled at b on here d =
      between on (λ less c there.
      let e : at + 1 - 1 ≡ at = omega arith in
      ap is_digit (same_Some _ _ (sym there ∙ ap (slice_get buffer) e ∙ here)) ∙ d)

  space-passed : (at b : ℕ) → slice_get buffer at ≡ Some b → is_space b ≡ true → RunLeadsOn buffer mode at (at + 1)
  space-passed at b here s =
      let room = slice_get_within buffer at b here in
      let one : 1 ≡ piece_len mode whole (drop at buffer) = sym (ap (piece_len mode whole) (drop-at_byte buffer at b here) ∙ piece_len-blank mode whole b _ s) in
      let same = past_gap-piece mode buffer at 1 one (omega (arith, room)) in
      let first = gap-leads_on buffer mode at (past_gap buffer at mode) (omega (arith, room)) refl in
      let second = gap-leads_on buffer mode (at + 1) (past_gap buffer at mode) (omega (arith, room)) (sym same) in
      leads_on-back at (at + 1) _ (omega arith) (omega (arith, room)) first second

  -- A byte that needs no look outside of texts is passed, if it is no quote.
  pub calm-passed : (settled at b : ℕ) → Outside buffer mode settled at → slice_get buffer at ≡ Some b → is_calm b ≡ true → is_quote b ≡ false →
      Outside buffer mode settled (at + 1)
  calm-passed settled at b o here calm no_quote = elim (cases_Bool (is_digit b)) [
    | inl d ↦ digit-passed settled at b o here d
    | inr n ↦ settled-there settled at b (leads_on-twice buffer mode settled at (at + 1) (finish settled at b o here n (grind (arith, nat_tests)) (grind (arith, nat_tests)))
        (elim (cases_Bool (is_space b)) [
          | inl s ↦ space-passed at b here s
          | inr t ↦ elim (cases_Bool (b == bytes.comma)) [
            | inl c ↦ separator-leads_on buffer mode at bytes.comma comma comma_stands (here ∙ ap Some (eqb-true b bytes.comma c)) (slice_get_within buffer at b here) (λ innermost around s. refl)
            | inr no_comma ↦
                let c : b ≡ bytes.colon = grind (arith, nat_tests) in
                separator-leads_on buffer mode at bytes.colon colon colon_stands (here ∙ ap Some c) (slice_get_within buffer at b here) (λ innermost around s. refl)
          ]
        ])) here n
  ]

  -- ---- texts

  -- A quote begins a text.
  pub quote-opens : (settled at : ℕ) → Outside buffer mode settled at → slice_get buffer at ≡ Some quote → InText buffer mode settled (at + 1)
  quote-opens settled at o here =
      let room = slice_get_within buffer at quote here in
      record {
        start = at;
        passed = 0;
        behind = omega arith;
        ends = omega (arith, room);
        on = finish settled at quote o here refl refl refl;
        opens = here;
        content = refl;
      }

  -- what a byte of the content does to its end
  abbrev Steps : ℕ → Type 0
  Steps at = content_len false (drop at buffer) ≡ one_more (content_len false (drop (at + 1) buffer))

  steps-passed : (settled at : ℕ) → at < length buffer → InText buffer mode settled at → Steps at → InText buffer mode settled (at + 1)
  steps-passed settled at room t same = record {
    start = t.start;
    passed = suc t.passed;
    behind = omega (arith, t.behind);
    ends = omega (arith, room);
    on = t.on;
    opens = t.opens;
    content = t.content ∙ ap (farther t.passed) same;
  }

  -- A byte of a text is passed that is neither a quote nor a backslash.
  pub text-passed : (settled at b : ℕ) → InText buffer mode settled at → slice_get buffer at ≡ Some b → is_quote b ≡ false → is_backslash b ≡ false →
      InText buffer mode settled (at + 1)
  text-passed settled at b t here q s =
      let step : Steps at = ap (content_len false) (drop-at_byte buffer at b here) ∙ rw (q, s) refl in
      steps-passed settled at (slice_get_within buffer at b here) t step

  -- So is a backslash before a byte that is neither.
  pub escape-passed : (settled at c : ℕ) → InText buffer mode settled at → slice_get buffer at ≡ Some backslash → slice_get buffer (at + 1) ≡ Some c →
      is_quote c ≡ false → is_backslash c ≡ false → InText buffer mode settled (at + 1)
  escape-passed settled at c t here next q s =
      let e = drop-at_byte buffer (at + 1) c next in
      let one : content_len true (drop (at + 1) buffer) ≡ content_len false (drop (at + 1) buffer) = ap (content_len true) e ∙ rw (q, s) refl ∙ sym (ap (content_len false) e) in
      let step : Steps at = ap (content_len false) (drop-at_byte buffer at backslash here) ∙ ap one_more one in
      steps-passed settled at (slice_get_within buffer at backslash here) t step

  -- A backslash and the byte that it escapes are passed.
  pub pair-passed : (settled at : ℕ) → InText buffer mode settled at → slice_get buffer at ≡ Some backslash → at + 2 ≤ length buffer → InText buffer mode settled (at + 2)
  pair-passed settled at t here room =
      let next = slice_get-get_or buffer (at + 1) 0 (omega (arith, room)) in
      let e = drop-at_byte buffer (at + 1) (get_or buffer (at + 1) 0) next in
      let two : at + 1 + 1 ≡ at + 2 = omega arith in
      record {
        start = t.start;
        passed = suc (suc t.passed);
        behind = omega (arith, t.behind);
        ends = room;
        on = t.on;
        opens = t.opens;
        content = t.content ∙ ap (farther t.passed) (ap (content_len false) (drop-at_byte buffer at backslash here) ∙ ap one_more (ap (content_len true) e ∙ ap (λ k. one_more (content_len false (drop k buffer))) two));
      }

  farther-some : (k n : ℕ) → farther k (Some n) ≡ Some (k + n)
  farther-some zero n = ap Some (omega arith)
  farther-some (suc k) n = farther-some k (suc n) ∙ ap Some (omega arith)

  -- A quote ends a text.
  pub quote-closes : (settled at : ℕ) → InText buffer mode settled at → slice_get buffer at ≡ Some quote → Outside buffer mode settled (at + 1)
  quote-closes settled at t here =
      let begin = t.start in
      let room = slice_get_within buffer at quote here in
      let found : content_len false (drop (begin + 1) buffer) ≡ Some t.passed =
      t.content ∙ ap (λ l. farther t.passed (content_len false l)) (drop-at_byte buffer at quote here) ∙ farther-some t.passed 0 ∙ ap Some (omega arith) in
      let is : cut_here mode begin (drop begin buffer) ≡ cut_text begin (drop (begin + 1) buffer) (Some t.passed) =
      ap (cut_here mode begin) (drop-at_byte buffer begin quote t.opens) ∙ cut_here-text mode begin (drop (begin + 1) buffer) ∙ ap (cut_text begin (drop (begin + 1) buffer)) found in
      let token = token-leads_on buffer mode begin (suc (suc t.passed)) (at + 1) _ (ungapped begin quote t.opens refl refl) (omega (arith, t.behind, room)) (omega (arith, t.behind)) (λ innermost around s. refl) is in
      settled-there settled at quote (leads_on-twice buffer mode settled begin (at + 1) t.on token) here refl

  pub text-past : (settled at : ℕ) → InText buffer mode settled at → settled ≤ at
  text-past settled at t = omega (arith, t.behind, t.on.past)

  pub outside-past : (settled at : ℕ) → Outside buffer mode settled at → settled ≤ at
  outside-past settled at (between on h) = on.past
  outside-past settled at (in_digits last b is on here d) = omega (arith, is, on.past)

  pub passed-past : (settled at : ℕ) (w : Bool) → IsPassed buffer mode settled at w → settled ≤ at
  passed-past settled at true p = text-past settled at p
  passed-past settled at false p = outside-past settled at p

  -- Where no digit stands before, a token may begin.
  pub undigited : (settled at : ℕ) → Outside buffer mode settled at → ((b : ℕ) → slice_get buffer (at - 1) ≡ Some b → is_digit b ≡ false) → RunLeadsOn buffer mode settled at
  undigited settled at (between on h) none = on
  undigited settled at (in_digits last b is on here d) none =
      let e : at - 1 ≡ last = omega (arith, is) in
      absurd (true≢false (sym d ∙ none b (ap (slice_get buffer) e ∙ here)))

  -- From a place where a token may begin, nothing is passed yet.
  pub nothing-passed : (at : ℕ) → at ≤ length buffer → IsPassed buffer mode at at false
  nothing-passed at h = between (leads_on-nowhere buffer mode at h) (λ less. absurd (omega (arith, less)))
