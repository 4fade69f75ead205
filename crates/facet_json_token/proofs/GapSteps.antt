-- The gap piece by piece, and the end of a comment byte by byte.
use Rattle.std.proofs.Common.{get_or, ◌≡◌, ℕ, suc, ◌+◌, ◌-◌, ◌<◌, ◌≤◌, true, false, cond, eqb, ◌&&◌, List, [], ◌∷◌, length, take, drop, slice_get, Option, Some, None, refl, ap, sym, inl, inr, ◌∙◌, arith}
use Rattle.std.proofs.Math.Bool.{and-true}
use Rattle.std.proofs.lemmas.List.{drop_more, take_rest, length-drop, drop-drop}
use Rattle.std.proofs.lemmas.Bool.{cases_eq, ne_eqb, eq-eqb, and_parts}
use Rattle.std.proofs.lemmas.Option.{slice_get_within}
use Rattle.std.specs.List.{starts_with}
use Rattle.std.specs.Option.{option_map}
use Rattle.facet_format.specs.Bytes.{star, slash}
use Rattle.facet_json_token.specs.Gap.{Mode, Input, whole, growing}
use Rattle.facet_json_token.specs.GapLen.{one_more, through_block_end, through_line_end, with_mark, with_line_mark, comment_len, piece_len, gap_len}
use Rattle.facet_json_token.specs.Cut.{past_gap}
use Rattle.facet_json_token.proofs.Gaps.{gap_len-piece}
use Rattle.facet_json_token.proofs.Offsets.{drop-at_byte, option_map-one_more, option_map-none}

-- ---- pieces

-- after a piece the gap ends at the same offset
pub past_gap-piece : (mode : Mode) (buffer : List ℕ) (at n : ℕ) → n ≡ piece_len mode whole (drop at buffer) →
    at + n ≤ length buffer → past_gap buffer (at + n) mode ≡ past_gap buffer at mode
past_gap-piece mode buffer at n e h =
    let step = gap_len-piece mode whole n (drop at buffer) (sym e) (omega (arith, length-drop at buffer)) in
    let behind : gap_len mode whole (drop n (drop at buffer)) ≡ gap_len mode whole (drop (at + n) buffer) =
    ap (gap_len mode whole) (drop-drop n at buffer) in
    omega arith

-- ---- the end of a comment

eqb_comm : (a b : ℕ) → eqb a b ≡ eqb b a
eqb_comm a b =
    elim (cases_eq a b) [
      | inl e ↦ eq-eqb a b e ∙ sym (eq-eqb b a (sym e))
      | inr n ↦ ne_eqb a b n ∙ sym (ne_eqb b a (λ e. n (sym e)))
    ]

-- the mark of a block comment's end, as the code tests it
closes : (b c : ℕ) (bytes : List ℕ) → starts_with eqb (b ∷ c ∷ bytes) (star ∷ slash ∷ []) ≡ (eqb b star && eqb c slash)
closes b c bytes = rw (eqb_comm b star, eqb_comm c slash) (ap (λ t. eqb star b && t) (and-true (eqb slash c)))

through_block_end-more : (b : ℕ) (bytes : List ℕ) → starts_with eqb (b ∷ bytes) (star ∷ slash ∷ []) ≡ false →
    through_block_end (b ∷ bytes) ≡ one_more (through_block_end bytes)
through_block_end-more b [] e = refl
through_block_end-more b (c ∷ bytes) e =
    ap (λ v. cond v (Some 2) (one_more (through_block_end (c ∷ bytes)))) (sym (closes b c bytes) ∙ e)

through_block_end-here : (bytes : List ℕ) → starts_with eqb bytes (star ∷ slash ∷ []) ≡ true →
    through_block_end bytes ≡ Some 2
through_block_end-here [] e = cc
through_block_end-here (b ∷ []) e = let no = (and_parts (eqb star b) false e).1 in cc
through_block_end-here (b ∷ c ∷ bytes) e =
    ap (λ v. cond v (Some 2) (one_more (through_block_end (c ∷ bytes)))) (sym (closes b c bytes) ∙ e)

-- where no `*/` stands, the first one from here on is the first from the next byte on
pub block_end-more : (buffer : List ℕ) (at : ℕ) → at < length buffer →
    starts_with eqb (take (length buffer - at) (drop at buffer)) (star ∷ slash ∷ []) ≡ false →
    option_map (λ n. (at + 1) + n) (through_block_end (drop (at + 1) buffer)) ≡
    option_map (λ n. at + n) (through_block_end (drop at buffer))
block_end-more buffer at h e =
    let bytes = drop (at + 1) buffer in
    let b = get_or buffer at 0 in
    let front : drop at buffer ≡ b ∷ bytes = drop_more buffer at 0 h in
    let test : starts_with eqb (b ∷ bytes) (star ∷ slash ∷ []) ≡ false =
    ap (λ l. starts_with eqb l (star ∷ slash ∷ [])) (sym front ∙ sym (take_rest buffer at)) ∙ e in
    sym (option_map-one_more at (through_block_end bytes))
    ∙ ap (option_map (λ n. at + n)) (sym (through_block_end-more b bytes test) ∙ ap through_block_end (sym front))

-- where it stands, it ends two bytes on
pub block_end-here : (buffer : List ℕ) (at : ℕ) →
    starts_with eqb (take (length buffer - at) (drop at buffer)) (star ∷ slash ∷ []) ≡ true →
    Some (at + 2) ≡ option_map (λ n. at + n) (through_block_end (drop at buffer))
block_end-here buffer at e =
    ap (option_map (λ n. at + n))
    (sym (through_block_end-here (drop at buffer)
    (ap (λ l. starts_with eqb l (star ∷ slash ∷ [])) (sym (take_rest buffer at)) ∙ e)))

-- ---- a comment whose mark stands at an offset

after_mark : (buffer : List ℕ) (at b : ℕ) → slice_get buffer at ≡ Some slash → slice_get buffer (at + 1) ≡ Some b →
    drop at buffer ≡ slash ∷ b ∷ drop (at + 2) buffer
after_mark buffer at b first second =
    drop-at_byte buffer at slash first
    ∙ ap (λ l. slash ∷ l) (drop-at_byte buffer (at + 1) b second ∙ ap (λ n. b ∷ drop n buffer) (omega arith))

mark_and : (at end : ℕ) (o : Option ℕ) → Some end ≡ option_map (λ n. (at + 2) + n) o →
    Some (end - at) ≡ option_map (λ n. suc (suc n)) o
mark_and at end None e = cc
mark_and at end (Some n) e = let there : end ≡ (at + 2) + n = cc in ap Some (omega arith)

with_mark-found : (k : ℕ) (o : Option ℕ) → Some k ≡ option_map (λ n. suc (suc n)) o → k ≡ with_mark o
with_mark-found k None e = cc
with_mark-found k (Some n) e = cc

with_line_mark-found : (input : Input) (bytes : List ℕ) (k : ℕ) (o : Option ℕ) →
    Some k ≡ option_map (λ n. suc (suc n)) o → k ≡ with_line_mark input bytes o
with_line_mark-found input bytes k None e = cc
with_line_mark-found whole bytes k (Some n) e = cc
with_line_mark-found growing bytes k (Some n) e = cc

-- a block comment that ends at an offset
pub comment_len-block : (buffer : List ℕ) (at end : ℕ) → slice_get buffer at ≡ Some slash →
    slice_get buffer (at + 1) ≡ Some star →
    Some end ≡ option_map (λ n. (at + 2) + n) (through_block_end (drop (at + 2) buffer)) →
    end - at ≡ comment_len whole (drop at buffer)
comment_len-block buffer at end first second e =
    with_mark-found (end - at) (through_block_end (drop (at + 2) buffer)) (mark_and at end _ e)
    ∙ ap (comment_len whole) (sym (after_mark buffer at star first second))

-- a block comment that has no end
pub comment_len-open_block : (buffer : List ℕ) (at : ℕ) → slice_get buffer at ≡ Some slash →
    slice_get buffer (at + 1) ≡ Some star →
    None ≡ option_map (λ n. (at + 2) + n) (through_block_end (drop (at + 2) buffer)) →
    0 ≡ comment_len whole (drop at buffer)
comment_len-open_block buffer at first second e =
    ap with_mark (sym (option_map-none (at + 2) (through_block_end (drop (at + 2) buffer)) e))
    ∙ ap (comment_len whole) (sym (after_mark buffer at star first second))

-- a line comment that ends at an offset
pub comment_len-line : (buffer : List ℕ) (at end : ℕ) → slice_get buffer at ≡ Some slash →
    slice_get buffer (at + 1) ≡ Some slash →
    Some end ≡ option_map (λ n. (at + 2) + n) (through_line_end (drop (at + 2) buffer)) →
    end - at ≡ comment_len whole (drop at buffer)
comment_len-line buffer at end first second e =
    let rest = drop (at + 2) buffer in
    with_line_mark-found whole rest (end - at) (through_line_end rest) (mark_and at end _ e)
    ∙ ap (comment_len whole) (sym (after_mark buffer at slash first second))

-- a line comment that the end of the input ends
pub comment_len-last_line : (buffer : List ℕ) (at : ℕ) → slice_get buffer at ≡ Some slash →
    slice_get buffer (at + 1) ≡ Some slash →
    None ≡ option_map (λ n. (at + 2) + n) (through_line_end (drop (at + 2) buffer)) →
    length buffer - at ≡ comment_len whole (drop at buffer)
comment_len-last_line buffer at first second e =
    let rest = drop (at + 2) buffer in
    let room = slice_get_within buffer (at + 1) slash second in
    let size : length buffer - at ≡ suc (suc (length rest)) = omega (arith, length-drop (at + 2) buffer) in
    size ∙ ap (with_line_mark whole rest) (sym (option_map-none (at + 2) (through_line_end rest) e))
    ∙ ap (comment_len whole) (sym (after_mark buffer at slash first second))
