-- What stands in sight: white space leaves the end of the gap where it is, and a byte that begins no piece of a gap ends it.
use Rattle.std.proofs.Common.{◌≡◌, ◌≢◌, ℕ, suc, ◌+◌, ◌-◌, ◌<◌, ◌≤◌, Bool, true, false, not, cond, eqb, List, [], ◌∷◌, length, take, drop, get_or, slice_get, Option, Some, None, Ok, IfSome, refl, ap, sym, ◌∙◌, arith}
use Rattle.std.proofs.lemmas.List.{drop-drop, take_rest}
use Rattle.std.proofs.lemmas.Bool.{ne_eqb, eq-eqb, eqb-true, and_parts, not-true, not-false}
use Rattle.std.proofs.lemmas.Option.{slice_get_within}
use Rattle.std.specs.List.{prefix_len, starts_with}
use Rattle.facet_format.specs.Bytes.{is_space, slash, space, tab, line_feed, carriage_return, minus}
use Rattle.facet_format.specs.NumberParts.{parts}
use Rattle.facet_format.specs.Views.{span_of}
use Rattle.facet_format.specs.declared.event.Span.{Span as RustSpan}
use Rattle.facet_json_token.specs.Gap.{Mode, plain, jsonc, whole}
use Rattle.facet_json_token.specs.GapLen.{piece_len, gap_len}
use Rattle.facet_json_token.specs.Cut.{Cut, Start, punctuation, letter, start_of, token_at, cut_by, cut_word, common_len, past_gap}
use Rattle.facet_json_token.specs.Cut.{cut_here, cut}
use Rattle.facet_json_token.specs.Token.{Kind}
use Rattle.facet_json_token.specs.Shape.{IsStructural, object_starts, object_ends, array_starts, array_ends, colon_stands, comma_stands}
use Rattle.facet_json_token.specs.declared.token.Token.{Token as RustToken}
use Rattle.facet_json_token.specs.declared.token.Token.TheVariants as code
use Rattle.facet_json_token.specs.declared.token.SpannedToken.{SpannedToken}
use Rattle.facet_json_token.specs.Views.{kind_of, with_span, token_answer, cut_of}
use Rattle.facet_json_token.specs.Inner.InSight.{told}
use Rattle.facet_json_token.specs.Inner.Window.{is_blank}
use Rattle.facet_json_token.proofs.Offsets.{drop-at_byte, slice_get-from_read}
use Rattle.facet_json_token.proofs.FirstBytes.{cut_here-by, cut_here-word, cut_here-number, start_of-number_range}
use Rattle.facet_json_token.proofs.Starts.{start_of-structural}
use Rattle.facet_json_token.proofs.NumberCuts.{number_at}
use Rattle.facet_json_token.proofs.Gaps.{piece_len-blank, gap_len-none, gap_len-piece}
use Rattle.facet_json_token.proofs.GapSteps.{past_gap-piece}
use Rattle.facet_json_token.proofs.RunEnds.{ends-run}

-- ---- white space

blank-step : (mode : Mode) (b k : ℕ) (bytes : List ℕ) (v : Bool) → is_space b ≡ v →
    gap_len mode whole bytes ≡ k + gap_len mode whole (drop k bytes) →
    gap_len mode whole (b ∷ bytes) ≡ cond (not (not v)) (1 + k) 0 + gap_len mode whole (drop (cond (not (not v)) (1 + k) 0) (b ∷ bytes))
blank-step mode b k bytes true e ih =
    let piece = gap_len-piece mode whole 1 (b ∷ bytes) (piece_len-blank mode whole b bytes e) (omega arith) in
    let next : suc k ≡ 1 + k = omega arith in
    omega (arith, piece, ih, ap (λ j. gap_len mode whole (drop j (b ∷ bytes))) next)
blank-step mode b k bytes false e ih = omega arith

gap_len-blanks : (mode : Mode) (bytes : List ℕ) →
    gap_len mode whole bytes ≡ prefix_len is_blank bytes + gap_len mode whole (drop (prefix_len is_blank bytes) bytes)
gap_len-blanks mode [] = omega arith
gap_len-blanks mode (b ∷ bytes) =
    blank-step mode b (prefix_len is_blank bytes) bytes (is_space b) refl (gap_len-blanks mode bytes)

-- after a run of white space the gap ends where it ended before it
pub past_gap-blanks : (mode : Mode) (buffer : List ℕ) (at end : ℕ) → end ≡ at + prefix_len is_blank (drop at buffer) →
    past_gap buffer end mode ≡ past_gap buffer at mode
past_gap-blanks mode buffer at end e =
    let k = prefix_len is_blank (drop at buffer) in
    ap (λ n. past_gap buffer n mode) e
    ∙ omega (arith, gap_len-blanks mode (drop at buffer), ap (gap_len mode whole) (drop-drop k at buffer))

-- and no white space stands there
pub stop-after_blanks : (buffer : List ℕ) (at end b : ℕ) → end ≡ at + prefix_len is_blank (drop at buffer) → slice_get buffer end ≡ Some b →
    is_space b ≡ false
stop-after_blanks buffer at end b e h = not-true (is_space b) (not-false (not (is_space b)) (ends-run is_blank buffer at end b e h))

-- and after one space
pub past_gap-space : (mode : Mode) (buffer : List ℕ) (at : ℕ) → slice_get buffer at ≡ Some space →
    past_gap buffer (at + 1) mode ≡ past_gap buffer at mode
past_gap-space mode buffer at h =
    let one = sym (ap (piece_len mode whole) (drop-at_byte buffer at space h) ∙ piece_len-blank mode whole space (drop (at + 1) buffer) refl) in
    past_gap-piece mode buffer at 1 one (omega (arith, slice_get_within buffer at space h))

-- ---- where no piece of a gap stands

no_piece : (mode : Mode) (b : ℕ) (bytes : List ℕ) → is_space b ≡ false → eqb b slash ≡ false →
    piece_len mode whole (b ∷ bytes) ≡ 0
no_piece plain b bytes s e = ap (λ v. cond v 1 0) s
no_piece jsonc b [] s e = ap (λ v. cond v 1 0) s
no_piece jsonc b (c ∷ bytes) s e = rw (s, e) refl

-- the gap ends there
pub past_gap-here : (mode : Mode) (buffer : List ℕ) (at b : ℕ) → slice_get buffer at ≡ Some b → is_space b ≡ false →
    eqb b slash ≡ false → at ≡ past_gap buffer at mode
past_gap-here mode buffer at b h s e =
    let none = gap_len-none mode whole (drop at buffer)
    (ap (piece_len mode whole) (drop-at_byte buffer at b h) ∙ no_piece mode b (drop (at + 1) buffer) s e) in
    omega (arith, none)

-- a byte that is none of the four is no white space
pub no_space : (b : ℕ) → (b ≡ space → ⊥) → (b ≡ tab → ⊥) → (b ≡ line_feed → ⊥) → (b ≡ carriage_return → ⊥) → is_space b ≡ false
no_space b s t l r = rw (ne_eqb b space s, ne_eqb b tab t, ne_eqb b line_feed l, ne_eqb b carriage_return r) refl

-- the gap ends at a byte that is none of the four, nor a slash
pub past_gap-ends : (mode : Mode) (buffer : List ℕ) (at b : ℕ) → (at < length buffer) × ((d : ℕ) → b ≡ get_or buffer at d) →
    (b ≡ space → ⊥) → (b ≡ tab → ⊥) → (b ≡ line_feed → ⊥) → (b ≡ carriage_return → ⊥) → (b ≡ slash → ⊥) → at ≡ past_gap buffer at mode
past_gap-ends mode buffer at b read s t l r no_slash =
    past_gap-here mode buffer at b (slice_get-from_read buffer at b b read refl) (no_space b s t l r) (ne_eqb b slash no_slash)

-- such is a byte above a space
pub above_space : (b : ℕ) → space < b → is_space b ≡ false
above_space b above = no_space b (omega arith) (omega arith) (omega arith) (omega arith)

-- what is cut there is what stands there
pub cut-here : (mode : Mode) (buffer : List ℕ) (at b : ℕ) → slice_get buffer at ≡ Some b → is_space b ≡ false →
    eqb b slash ≡ false → cut_here mode at (drop at buffer) ≡ cut buffer at mode
unfolding cut
cut-here mode buffer at b h s e = ap (λ n. cut_here mode n (drop n buffer)) (past_gap-here mode buffer at b h s e)

-- from within a gap the same is cut as from its start
pub cut-within_gap : (mode : Mode) (buffer : List ℕ) (at position : ℕ) →
    past_gap buffer at mode ≡ past_gap buffer position mode → cut buffer at mode ≡ cut buffer position mode
unfolding cut
cut-within_gap mode buffer at position e = ap (λ n. cut_here mode n (drop n buffer)) e

-- what begins there is cut
cut-by : (buffer : List ℕ) (at b : ℕ) (start : Start) → slice_get buffer at ≡ Some b → start_of b ≡ start →
    is_space b ≡ false → eqb b slash ≡ false → (mode : Mode) → cut_by start mode at b (drop (at + 1) buffer) ≡ cut buffer at mode
cut-by buffer at b start h e s n mode = cut_here-by mode buffer at b start h e ∙ cut-here mode buffer at b h s n

-- a bracket, a colon or a comma is neither white space nor a slash
structural_byte : (b : ℕ) (kind : Kind) → IsStructural b kind → (is_space b ≡ false) × (eqb b slash ≡ false)
structural_byte _ _ object_starts = (refl, refl)
structural_byte _ _ object_ends = (refl, refl)
structural_byte _ _ array_starts = (refl, refl)
structural_byte _ _ array_ends = (refl, refl)
structural_byte _ _ colon_stands = (refl, refl)
structural_byte _ _ comma_stands = (refl, refl)

-- and is cut where it stands
pub structural-is_cut : (buffer : List ℕ) (at b : ℕ) (kind : Kind) → slice_get buffer at ≡ Some b → IsStructural b kind → (mode : Mode) →
    token_at kind at 1 ≡ cut buffer at mode
structural-is_cut buffer at b kind here is mode =
    let no_gap = structural_byte b kind is in
    cut-by buffer at b (punctuation kind) here (start_of-structural b kind is) no_gap.0 no_gap.1 mode

-- a literal
cut-word : (buffer : List ℕ) (at b : ℕ) (word : List ℕ) (kind : Kind) → slice_get buffer at ≡ Some b →
    start_of b ≡ letter word kind → is_space b ≡ false → eqb b slash ≡ false → (mode : Mode) →
    cut_word at (drop at buffer) word kind (common_len word (drop at buffer)) ≡ cut buffer at mode
cut-word buffer at b word kind h e s n mode = cut_here-word mode buffer at b word kind h e ∙ cut-here mode buffer at b h s n

-- a number
pub cut-number : (buffer : List ℕ) (at b : ℕ) → slice_get buffer at ≡ Some b → minus ≤ b → b ≤ 0x39 → b ≢ 0x2e → b ≢ slash →
    (mode : Mode) → number_at at (drop (at + 1) buffer) (parts (drop at buffer)) ≡ cut buffer at mode
cut-number buffer at b h low high no_dot no_slash mode =
    cut_here-number mode buffer at b h (start_of-number_range b low high no_dot no_slash)
    ∙ cut-here mode buffer at b h (above_space b (omega (arith, low))) (ne_eqb b slash no_slash)

common-whole : (word bytes : List ℕ) → starts_with eqb bytes word ≡ true → length word ≡ common_len word bytes
common-whole [] bytes e = refl
common-whole (w ∷ word) [] e = cc
common-whole (w ∷ word) (b ∷ bytes) e =
    let both = and_parts (eqb w b) (starts_with eqb bytes word) e in
    ap suc (common-whole word bytes both.1)
    ∙ sym (ap (λ v. cond v (suc (common_len word bytes)) 0) (eq-eqb b w (sym (eqb-true w b both.0))))

-- a literal all of whose letters stand there
pub cut_word-whole : (buffer : List ℕ) (at : ℕ) (word : List ℕ) (k : Kind) →
    starts_with eqb (take (length buffer - at) (drop at buffer)) word ≡ true →
    token_at k at (length word) ≡ cut_word at (drop at buffer) word k (common_len word (drop at buffer))
cut_word-whole buffer at word k e =
    let all = common-whole word (drop at buffer) (ap (λ l. starts_with eqb l word) (sym (take_rest buffer at)) ∙ e) in
    ap (token_at k at) all ∙ sym (rw (eq-eqb (common_len word (drop at buffer)) (length word) (sym all)) refl)

-- ---- the answer

-- a token that is told, in any mode
pub told-cut : (found : Option SpannedToken) (x : Cut) (buffer : List ℕ) (at : ℕ) → IfSome found (λ t. told t ≡ Some x) →
    ((mode : Mode) → x ≡ cut buffer at mode) → IfSome found (λ t. (mode : Mode) → told t ≡ Some (cut buffer at mode))
told-cut None x buffer at h e = tt
told-cut (Some t) x buffer at h e = λ mode. h ∙ ap Some (e mode)

-- a letter tells the literal
pub told-word : (found : Option SpannedToken) (buffer : List ℕ) (at b byte : ℕ) (word : List ℕ) (kind : Kind) →
    (at < length buffer) × ((d : ℕ) → b ≡ get_or buffer at d) → b ≡ byte → start_of byte ≡ letter word kind → is_space byte ≡ false →
    eqb byte slash ≡ false → IfSome found (λ t. told t ≡ Some (cut_word at (drop at buffer) word kind (common_len word (drop at buffer)))) →
    IfSome found (λ t. (mode : Mode) → told t ≡ Some (cut buffer at mode))
told-word found buffer at b byte word kind read is starts no_space no_slash h =
    let here = slice_get-from_read buffer at b byte read is in
    told-cut found _ buffer at h (cut-word buffer at byte word kind here starts no_space no_slash)

answer-told : (s : RustSpan) (t : RustToken) (c : Cut) → with_span (span_of s) (kind_of t) ≡ Some c → token_answer s t ≡ Some c
answer-told s code.Eof c e = cc
answer-told s t c e = e

-- a token that is told is the answer
pub cut_of-told : (t : SpannedToken) (c : Cut) → told t ≡ Some c → cut_of (Ok t) ≡ Some c
cut_of-told t c e = answer-told t.span t.token c e

-- and is no end
pub told-no_end : {P : Type 0} (t : SpannedToken) (c : Cut) → told t ≡ Some c → t.token ≡ code.Eof → P
told-no_end t c e eof =
    let none : None ≡ Some c = sym (ap (λ k. with_span (span_of t.span) (kind_of k)) eof) ∙ e in absurd (cc)
