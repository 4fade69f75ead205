-- Where a comment ends, after a run of bytes that cannot end it.
use Rattle.std.proofs.Common.{◌≡◌, ℕ, suc, ◌+◌, ◌<◌, Bool, true, false, not, ◌&&◌, cond, eqb, List, [], ◌∷◌, length, drop, Option, Some, None, refl, ap, sym, ◌∙◌, arith}
use Rattle.std.proofs.lemmas.List.{drop-drop, length-drop}
use Rattle.std.specs.List.{prefix_len}
use Rattle.std.specs.Option.{option_map}
use Rattle.facet_format.specs.Bytes.{star, slash, line_feed}
use Rattle.facet_json_token.specs.GapLen.{one_more, through_block_end, through_line_end}
use Rattle.facet_json_token.specs.Inner.Window.{is_star, is_line_feed}
use Rattle.facet_json_token.proofs.TextWindows.{none_ahead, one_ahead, both_ahead}

-- ---- a block comment

block-tail : (b : ℕ) (bytes : List ℕ) → eqb b star ≡ false → through_block_end (b ∷ bytes) ≡ one_more (through_block_end bytes)
block-tail b [] e = refl
block-tail b (c ∷ bytes) e = ap (λ v. cond (v && eqb c slash) (Some 2) (one_more (through_block_end (c ∷ bytes)))) e

block-step : (is : Bool) (b : ℕ) (bytes : List ℕ) (k : ℕ) → is ≡ eqb b star →
    through_block_end bytes ≡ option_map (λ n. k + n) (through_block_end (drop k bytes)) →
    through_block_end (b ∷ bytes) ≡ option_map (λ n. cond (not is) (1 + k) 0 + n) (through_block_end (drop (cond (not is) (1 + k) 0) (b ∷ bytes)))
block-step true b bytes k e ih = none_ahead (through_block_end (b ∷ bytes))
block-step false b bytes k e ih =
    let next : suc k ≡ 1 + k = omega arith in
    block-tail b bytes (sym e) ∙ ap one_more ih ∙ one_ahead k (through_block_end (drop k bytes))
    ∙ ap (λ j. option_map (λ n. (1 + k) + n) (through_block_end (drop j (b ∷ bytes)))) next

block-run : (bytes : List ℕ) → let k = prefix_len (λ b. not (is_star b)) bytes in
    through_block_end bytes ≡ option_map (λ n. k + n) (through_block_end (drop k bytes))
block-run [] = refl
block-run (b ∷ bytes) = block-step (eqb b star) b bytes (prefix_len (λ x. not (is_star x)) bytes) refl (block-run bytes)

-- The first `*/` from the end of a run without a star on is the first from its start on.
pub block_end-run : (buffer : List ℕ) (from end : ℕ) → end ≡ from + prefix_len (λ b. not (is_star b)) (drop from buffer) →
    option_map (λ n. end + n) (through_block_end (drop end buffer)) ≡ option_map (λ n. from + n) (through_block_end (drop from buffer))
block_end-run buffer from end e =
    let rest = drop from buffer in
    let k = prefix_len (λ b. not (is_star b)) rest in
    ap (λ x. option_map (λ n. x + n) (through_block_end (drop x buffer))) e
    ∙ sym (ap (option_map (λ n. from + n)) (block-run rest)
    ∙ both_ahead from k (through_block_end (drop k rest))
    ∙ ap (λ l. option_map (λ n. (from + k) + n) (through_block_end l)) (drop-drop k from buffer))

-- ---- a line comment

line-step : (is : Bool) (k m : ℕ) (o : Option ℕ) → (k < m → o ≡ Some (k + 1)) →
    cond (not is) (1 + k) 0 < suc m → cond is (Some 1) (one_more o) ≡ Some (cond (not is) (1 + k) 0 + 1)
line-step true k m o ih room = refl
line-step false k m o ih room = ap one_more (ih (omega arith)) ∙ ap Some (omega arith)

line-here : (bytes : List ℕ) → let k = prefix_len (λ b. not (is_line_feed b)) bytes in k < length bytes → through_line_end bytes ≡ Some (k + 1)
line-here [] room = absurd (omega arith)
line-here (b ∷ bytes) room = line-step (eqb b line_feed) (prefix_len (λ x. not (is_line_feed x)) bytes) (length bytes) (through_line_end bytes) (line-here bytes) room

no_line-step : (is : Bool) (k m : ℕ) (o : Option ℕ) → (k ≡ m → o ≡ None) → cond (not is) (1 + k) 0 ≡ suc m → cond is (Some 1) (one_more o) ≡ None
no_line-step true k m o ih all = absurd (omega arith)
no_line-step false k m o ih all = ap one_more (ih (omega arith))

no_line : (bytes : List ℕ) → prefix_len (λ b. not (is_line_feed b)) bytes ≡ length bytes → through_line_end bytes ≡ None
no_line [] all = refl
no_line (b ∷ bytes) all = no_line-step (eqb b line_feed) (prefix_len (λ x. not (is_line_feed x)) bytes) (length bytes) (through_line_end bytes) (no_line bytes) all

-- Where a run without a line feed ends within the buffer, the line ends with the next byte.
pub line_end-here : (buffer : List ℕ) (from end : ℕ) → end ≡ from + prefix_len (λ b. not (is_line_feed b)) (drop from buffer) → end < length buffer →
    Some (end + 1) ≡ option_map (λ n. from + n) (through_line_end (drop from buffer))
line_end-here buffer from end e room =
    let here = line-here (drop from buffer) (omega (arith, e, length-drop from buffer)) in
    sym (ap (option_map (λ n. from + n)) here ∙ ap Some (omega (arith, e)))

-- Where it doesn't, no line ends.
pub line_end-none : (buffer : List ℕ) (from end : ℕ) → from + length (drop from buffer) ≡ length buffer →
    end ≡ from + prefix_len (λ b. not (is_line_feed b)) (drop from buffer) → end ≡ length buffer →
    None ≡ option_map (λ n. from + n) (through_line_end (drop from buffer))
line_end-none buffer from end long e all = sym (ap (option_map (λ n. from + n)) (no_line (drop from buffer) (omega (arith, e, long, all))))
