-- The forms in which a byte of a text is written.
use Rattle.std.proofs.Common.{◌≡◌, ℕ, ◌<◌, true, false, ◌==◌, ◌||◌, List, [], ◌∷◌, Some, refl, arith}
use Rattle.std.specs.Prelude.{nat_lt}
use Rattle.std.proofs.lemmas.Bool.{cond_both, eqb-true, or_parts}
use Rattle.std.proofs.lemmas.Bool.Decides.{nat_tests}
use Rattle.facet_format.specs.Bytes.{quote, backslash, lower_b, lower_f, lower_n, lower_r, lower_t, lower_u, backspace, form_feed, line_feed, carriage_return, tab, space, delete}
use Rattle.facet_json_token.specs.Decode.{short_escape}
use Rattle.facet_json_grammar.specs.Quoted.{hex_byte, escaped}

-- The bytes are a form in which this byte is written.
pub data Form (b : ℕ) : List ℕ → Type 0 where
  short : (c : ℕ) → short_escape c ≡ Some b → Form b (backslash ∷ c ∷ [])
  by_number : b < 128 → Form b (backslash ∷ lower_u ∷ 0x30 ∷ 0x30 ∷ hex_byte b)
  itself : (b == quote) ≡ false → (b == backslash) ≡ false → nat_lt b space ≡ false → Form b (b ∷ [])

-- A quote and a backslash are their own short escapes.
short-itself : (b : ℕ) → ((b == quote) || (b == backslash)) ≡ true → short_escape b ≡ Some b
unfolding short_escape
short-itself b e = rw e refl

-- The five other short escapes.
short-named : (b named letter : ℕ) → short_escape letter ≡ Some named → (b == named) ≡ true →
    Form b (backslash ∷ letter ∷ [])
short-named b named letter is e = short letter (rw (eqb-true b named e) is)

-- A control character is ASCII.
control-ascii : (b : ℕ) → (nat_lt b space || (b == delete)) ≡ true → b < 128
control-ascii b e = grind (arith, nat_tests)

-- A byte is written in one of these forms.
pub form : (b : ℕ) → Form b (escaped b)
unfolding escaped short_escape
form b =
    cond_both ((b == quote) || (b == backslash)) _ _ (Form b) (λ e. short b (short-itself b e)) λ named.
    cond_both (b == line_feed) _ _ (Form b) (short-named b line_feed lower_n refl) λ _.
    cond_both (b == carriage_return) _ _ (Form b) (short-named b carriage_return lower_r refl) λ _.
    cond_both (b == tab) _ _ (Form b) (short-named b tab lower_t refl) λ _.
    cond_both (b == backspace) _ _ (Form b) (short-named b backspace lower_b refl) λ _.
    cond_both (b == form_feed) _ _ (Form b) (short-named b form_feed lower_f refl) λ _.
    cond_both (nat_lt b space || (b == delete)) _ _ (Form b) (λ e. by_number (control-ascii b e)) λ printed.
    let no = or_parts (b == quote) (b == backslash) named in
    itself no.0 no.1 (or_parts (nat_lt b space) (b == delete) printed).0
