-- Where a text's run ends in a window: lane by lane, however wide the window is.
use Rattle.std.proofs.Common.{◌≡◌, ℕ, ◌%◌, ◌^◌, ◌≤◌, Bool, true, false, ◌||◌, eqb, ltb, List, map, length, refl}
use lib.Bits.{bit_or}
use lib.Lanes.{zip2, mask_l, top}
use Rattle.facet_format.specs.Bytes.{quote, backslash}
use Rattle.facet_json_token.specs.Inner.Window.{is_stop}
use Rattle.facet_json_token.specs.Inner.Ascii.{is_high}
use Rattle.facet_json_reader.specs.Inner.Window.{is_stop_from, is_mark}
use Rattle.facet_json_reader.proofs.ComparedLanes.{lane, lanes-either, lanes-masked}

-- The order of two alternatives is all the same.
turned : (a b c : Bool) → (a || (b || c)) ≡ ((a || c) || b)
turned true b c = refl
turned false true true = refl
turned false true false = refl
turned false false true = refl
turned false false false = refl

module _ (v : List ℕ) (least : ℕ) {quotes escapes low : List ℕ} (short : length v ≤ 64)
    (at_quotes : quotes ≡ map (λ x. lane (eqb x quote)) v) (at_escapes : escapes ≡ map (λ x. lane (eqb x backslash)) v)
    (at_low : low ≡ map (λ x. lane (ltb x least)) v) where
  stops : zip2 bit_or quotes escapes ≡ map (λ x. lane (is_stop x)) v
  stops = lanes-either (λ x. eqb x quote) (λ x. eqb x backslash) v at_quotes at_escapes

  -- A quote, a backslash or a byte below the bound.
  pub unescaped-masked : mask_l (map (top 7) (zip2 bit_or (zip2 bit_or quotes escapes) low)) % 2 ^ 64 ≡ mask_l (map (is_stop_from least) v)
  unescaped-masked =
      lanes-masked (is_stop_from least) (is_stop_from least) v _ short (lanes-either is_stop (λ x. ltb x least) v stops at_low) (λ x. refl)

  -- Such a byte, or one that is no ASCII.
  pub ordinary-masked : {high : List ℕ} → high ≡ map (λ x. lane (is_high x)) v →
      mask_l (map (top 7) (zip2 bit_or (zip2 bit_or quotes escapes) (zip2 bit_or high low))) % 2 ^ 64 ≡ mask_l (map (is_mark least) v)
  ordinary-masked at_high =
      let others = lanes-either is_high (λ x. ltb x least) v at_high at_low in
      let all = lanes-either is_stop (λ x. is_high x || ltb x least) v stops others in
      lanes-masked _ (is_mark least) v _ short all (λ x. turned (is_stop x) (is_high x) (ltb x least))
