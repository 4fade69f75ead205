-- A line that is cut out of a text, where the place within it may be any.
use Rattle.std.proofs.Common.{◌≡◌, ℕ, zero, suc, ◌+◌, ◌-◌, ◌≤◌, ◌<◌, not, List, ◌++◌, length, take, drop, get_or, slice_index, slice_range, IsUtf8, IsCharBoundary, sym, ap, ◌∙◌, subst, arith, length-append, length-drop, take-append-drop}
use Rattle.std.specs.List.{suffix_len, position_or_len, after_last, before_first}
use Rattle.std.proofs.lemmas.Str.{IsCharBoundary-start, IsCharBoundary-after_ascii}
use lib.ListN.{get_or-append}
use lib.Seq.{drop-append-le, take-append-add}
use Rattle.facet_format.specs.Line.{is_feed, begun_line, rest_of_line}

-- a range that starts in the first part and ends in the second
cut_across : (first second : List ℕ) (start len : ℕ) → start ≤ length first
    → slice_range (first ++ second) start (length first + len) ≡ drop start first ++ take len second
cut_across first second start len within =
    let left : length first + len - start ≡ length (drop start first) + len = omega (arith, length-drop start first) in
    ap (λ l. take (length first + len - start) l) (drop-append-le start first second within)
    ∙ ap (λ n. take n (drop start first ++ second)) left
    ∙ take-append-add (drop start first) second len

-- what is before a place and what from it on are the whole
pub together : (source before after : List ℕ) (offset : ℕ) → before ≡ take offset source → after ≡ drop offset source
    → before ++ after ≡ source
together source before after offset b a = (λ i. b i ++ a i) ∙ take-append-drop offset source

-- from the start of the last line before the place to the first line feed after it
pub whole_line : (source before after : List ℕ) (offset start len : ℕ) → before ≡ take offset source → after ≡ drop offset source
    → start ≤ length before → start ≡ length before - suffix_len (λ b. not (is_feed b)) before → len ≡ position_or_len is_feed after
    → slice_range source start (length before + len) ≡ begun_line source offset ++ rest_of_line source offset
whole_line source before after offset start len b a within starts ends =
    let first : drop start before ≡ begun_line source offset
    = ap (λ n. drop n before) starts ∙ ap (λ l. after_last is_feed l) b in
    let second : take len after ≡ rest_of_line source offset = ap (λ n. take n after) ends ∙ ap (λ l. before_first is_feed l) a in
    ap (λ s. slice_range s start (length before + len)) (sym (together source before after offset b a))
    ∙ cut_across before after start len within
    ∙ (λ i. first i ++ second i)

-- a line starts where a text may be cut
starts_line : (first second : List ℕ) (start : ℕ) → IsUtf8 (first ++ second) → start ≤ length first
    → (0 < start → slice_index first (start - 1) ≡ 10) → IsCharBoundary (first ++ second) start
starts_line first second zero text within feed = IsCharBoundary-start (first ++ second) text
starts_line first second (suc n) text within feed =
    let here : slice_index first n ≡ 10 = subst (λ k. slice_index first k ≡ 10) (omega arith) (feed (omega arith)) in
    let there : get_or (first ++ second) n 0 ≡ 10 = get_or-append first second 0 n (omega arith) ∙ here in
    subst (λ k. IsCharBoundary (first ++ second) k) (omega arith)
    (IsCharBoundary-after_ascii (first ++ second) n text (omega (arith, length-append first second)) (omega (arith, there)))

-- the same of the source that is in two parts
pub line_starts : (source before after : List ℕ) (offset start : ℕ) → before ≡ take offset source → after ≡ drop offset source
    → IsUtf8 source → start ≤ length before → (0 < start → slice_index before (start - 1) ≡ 10) → IsCharBoundary source start
line_starts source before after offset start b a text within feed =
    let whole : before ++ after ≡ source = together source before after offset b a in
    subst (λ s. IsCharBoundary s start) whole (starts_line before after start (subst IsUtf8 (sym whole) text) within feed)
