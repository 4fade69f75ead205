-- The letters that stand are a prefix of the word, or the word is cut.
use Rattle.std.proofs.Common.{◌≡◌, ◌+◌, ◌<◌, ◌∷◌, length, drop, refl, sym, ap, ◌∙◌, subst, arith, length-drop}
use Rattle.std.proofs.lemmas.Option.{slice_get_within}
use Rattle.facet_json_scan.specs.Scanner.{Describes, in_word}
use Rattle.facet_json_token.specs.Open.{IsBeginning}
use Rattle.facet_json_token.specs.Cut.{common_len, cut_word}
use Rattle.facet_json_token.proofs.Offsets.{drop-at_byte}
use Rattle.facet_json_token.proofs.FirstBytes.{cut_here-word, cut_here-something}
use Rattle.facet_json_scan.proofs.Pieces.PendingWord.{word-open, word-shut}
use Rattle.facet_json_scan.proofs.AnswersOfCuts.{EndsWithin, found-here, answered-ends, cut_here-ends}
use Rattle.facet_json_token.specs.Gap.{plain}
use Rattle.facet_json_scan.proofs.scanner.token.word_from.Goals as goal
use Rattle.facet_json_scan.proofs.scanner.token.word_from.Goals.{else-len-word-via-then-len-word+else-len-buffer, else-len-word-via-else-len-word}

pub returns-then-len-buffer-clause-here : goal.returns-then-len-buffer-clause-here
returns-then-len-buffer-clause-here c = λ mode b kind here begins is.
    let buffer = c.args.buffer.now in
    let at = c.args.at in
    let word = c.args.word.now in
    let rest = drop (at + 1) buffer in
    let front : drop at buffer ≡ b ∷ rest = drop-at_byte buffer at b here in
    let len : common_len word (b ∷ rest) ≡ length (b ∷ rest) =
    ap (common_len word) (sym front) ∙ sym c.common_len-len.ensures.len ∙ c.if-len-buffer.true
    ∙ sym (length-drop at buffer) ∙ ap length front in
    let short : length (b ∷ rest) < length word =
    omega (arith, len, ap (common_len word) front, c.common_len-len.ensures.len, c.if-len-word.true) in
    (refl, subst (Describes mode in_word) (sym front) (word-open mode b rest word kind begins len short))

pub returns-clause-here : goal.returns-clause-here
returns-clause-here c = λ mode b kind here begins is.
    let buffer = c.args.buffer.now in
    let at = c.args.at in
    let word = c.args.word.now in
    let rest = drop (at + 1) buffer in
    let bytes = drop at buffer in
    let front : bytes ≡ b ∷ rest = drop-at_byte buffer at b here in
    let cuts = cut_here-word mode buffer at b word kind here begins in
    let not_open : common_len word (b ∷ rest) < length word → common_len word (b ∷ rest) ≡ length (b ∷ rest) → ⊥ =
    λ short all.
    let n = ap (common_len word) front in
    let k = ap length front in
    elim c.else-len-word.branch [
      | else-len-word-via-then-len-word+else-len-buffer w ↦
          w.if-len-buffer.false (omega (arith, n, k, all, c.common_len-len.ensures.len, length-drop at buffer))
      | else-len-word-via-else-len-word w ↦
          absurd (omega (arith, n, short, c.common_len-len.ensures.len, w.if-len-word.false))
    ] in
    found-here mode buffer at c.told.result (cut_word at bytes word kind (common_len word bytes))
    (c.told.ensures.answer ∙ c.cut_word.ensures kind is) (λ e. cut_here-something mode buffer at b here (sym cuts ∙ e)) cuts
    (λ i. word-shut mode b rest word kind begins not_open (subst (IsBeginning mode) front i))

pub returns-clause-within : goal.returns-clause-within
returns-clause-within c = λ b kind here begins is.
    let buffer = c.args.buffer.now in
    let at = c.args.at in
    let word = c.args.word.now in
    let bytes = drop at buffer in
    let cuts = cut_here-word plain buffer at b word kind here begins in
    let ends =
    answered-ends c.told.result (cut_word at bytes word kind (common_len word bytes)) _ (c.told.ensures.answer ∙ c.cut_word.ensures kind is)
    (subst (EndsWithin (length buffer)) (sym cuts) (cut_here-ends plain buffer at b here)) in
    (omega (arith, slice_get_within buffer at b here), ends.0, ends.1)
