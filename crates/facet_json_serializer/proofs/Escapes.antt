-- What stands between the quotes for a byte of a text, and for a run of bytes.
use Rattle.std.proofs.Common.{◌≡◌, ◌≢◌, ℕ, suc, ◌+◌, ◌-◌, ◌<◌, ◌≤◌, ◌||◌, ◌==◌, Bool, true, false, not, cond, nat_lt, codes, List, [], ◌∷◌, ◌++◌, length, get_or, take, drop, refl, sym, ap, ap₂, ◌∙◌, append_assoc, append-nil, arith}
use Rattle.std.proofs.lemmas.Bool.{ne_eqb}
use Rattle.std.proofs.lemmas.Bool.Decides.{nat_tests}
use Rattle.std.proofs.lemmas.List.{drop_more, drop-drop, take_more, flat_map_more}
use Rattle.std.proofs.lemmas.List.Edits.{between_more, between_none}
use Rattle.std.specs.List.{flat_map, prefix_len, slice_range}
use Rattle.facet_format.specs.Bytes.{quote, backslash, backspace, form_feed, line_feed, carriage_return, tab, space, delete}
use Rattle.facet_json_grammar.specs.Quoted.{escaped, hex_byte}
use Rattle.facet_json_serializer.specs.Inner.Window.{needs_escape, needs_no_escape}

-- where no escape of two characters stands for the byte
pub long_escape : (b : ℕ) → b ≢ quote → b ≢ backslash → b ≢ line_feed → b ≢ carriage_return → b ≢ tab → b ≢ backspace
    → b ≢ form_feed → escaped b ≡ cond (nat_lt b space || (b == delete)) (codes "\\u00" ++ hex_byte b) (b ∷ [])
unfolding escaped
long_escape b q s l r t k f =
    rw (
      ne_eqb b quote q,
      ne_eqb b backslash s,
      ne_eqb b line_feed l,
      ne_eqb b carriage_return r,
      ne_eqb b tab t,
      ne_eqb b backspace k,
      ne_eqb b form_feed f,
    )

-- a byte that needs no escape stands for itself
pub plain_escape : (b : ℕ) → needs_escape b ≡ false → escaped b ≡ b ∷ []
unfolding escaped
plain_escape b h = grind (arith, nat_tests)

run-step : (needs : Bool) (b n : ℕ) (bytes : List ℕ) → needs ≡ needs_escape b
    → flat_map escaped bytes ≡ take n bytes ++ flat_map escaped (drop n bytes)
    → flat_map escaped (b ∷ bytes) ≡ take (cond (not needs) (1 + n) 0) (b ∷ bytes) ++ flat_map escaped (drop (cond (not needs) (1 + n) 0) (b ∷ bytes))
run-step true b n bytes e ih = refl
run-step false b n bytes e ih =
    let next : suc n ≡ 1 + n = omega arith in
    ap₂ (λ p r. p ++ r) (plain_escape b (sym e)) ih ∙ ap (λ k. take k (b ∷ bytes) ++ flat_map escaped (drop k (b ∷ bytes))) next

-- the bytes up to the first that needs an escape stand for themselves
escaped-run : (bytes : List ℕ) → let n = prefix_len needs_no_escape bytes in
    flat_map escaped bytes ≡ take n bytes ++ flat_map escaped (drop n bytes)
escaped-run [] = refl
escaped-run (b ∷ bytes) = run-step (needs_escape b) b (prefix_len needs_no_escape bytes) bytes refl (escaped-run bytes)

-- what stands for the rest of a text: the run up to the next byte that needs an escape, and what stands for the rest after it
pub escaped-to : (text : List ℕ) (at stop : ℕ) → stop ≡ at + prefix_len needs_no_escape (drop at text)
    → flat_map escaped (drop at text) ≡ slice_range text at stop ++ flat_map escaped (drop stop text)
escaped-to text at stop e =
    let rest = drop at text in
    let n = prefix_len needs_no_escape rest in
    let long : n ≡ stop - at = omega (arith, e) in
    escaped-run rest ∙ ap₂ (λ k r. take k rest ++ flat_map escaped r) long (drop-drop n at text ∙ ap (λ i. drop i text) (sym e))

-- and a byte and what stands for the rest after it
pub escaped-at : (text : List ℕ) (i : ℕ) → i < length text → flat_map escaped (drop i text) ≡ escaped (get_or text i 0) ++ flat_map escaped (drop (i + 1) text)
escaped-at text i lt = ap (flat_map escaped) (drop_more text i 0 lt)

-- a part of the rest is put out
pub put_out : (out now rest part later whole : List ℕ) → now ≡ out ++ part → rest ≡ part ++ later → out ++ rest ≡ whole → now ++ later ≡ whole
put_out out now rest part later whole e split h = ap (λ l. l ++ later) e ∙ append_assoc out part later ∙ ap (λ l. out ++ l) (sym split) ∙ h

-- what is put out where a text is escaped up to i, and its bytes from start on are still to be put out
pub record IsWritten (text before out : List ℕ) (start i : ℕ) : Type 0 where
  pub in_order : start ≤ i
  pub written : out ++ slice_range text start i ≡ before ++ flat_map escaped (take i text)

escaped-more : (text before : List ℕ) (i : ℕ) → i < length text
    → before ++ flat_map escaped (take i text) ++ escaped (get_or text i 0) ≡ before ++ flat_map escaped (take (i + 1) text)
escaped-more text before i lt =
    flat_map_more escaped before (take i text) (get_or text i 0) ∙ ap (λ s. before ++ flat_map escaped s) (sym (take_more text i 0 lt))

-- one more byte that stands for itself
pub IsWritten-plain : (text before out : List ℕ) (start i : ℕ) → i < length text → escaped (get_or text i 0) ≡ get_or text i 0 ∷ []
    → IsWritten text before out start i → IsWritten text before out start (i + 1)
IsWritten-plain text before out start i lt plain h =
    let b = get_or text i 0 ∷ [] in
    let run = slice_range text start i in
    record {
      in_order = omega arith;
      written = ap (λ s. out ++ s) (between_more text start i 0 h.in_order lt) ∙ sym (append_assoc out run b)
          ∙ ap (λ s. s ++ b) h.written ∙ ap (λ s. before ++ flat_map escaped (take i text) ++ s) (sym plain)
          ∙ escaped-more text before i lt;
    }

-- the run and an escape, after which the next run is empty
pub IsWritten-escape : (text before out : List ℕ) (start i : ℕ) → i < length text → IsWritten text before out start i
    → IsWritten text before (out ++ slice_range text start i ++ escaped (get_or text i 0)) (i + 1) (i + 1)
IsWritten-escape text before out start i lt h =
    let e = escaped (get_or text i 0) in
    record {
      in_order = omega arith;
      written = ap (λ s. out ++ slice_range text start i ++ e ++ s) (between_none text (i + 1)) ∙ append-nil _
          ∙ ap (λ s. s ++ e) h.written ∙ escaped-more text before i lt;
    }
