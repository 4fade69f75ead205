-- What the first byte begins is found, and another byte is cut.
use Rattle.std.proofs.Common.{◌≡◌, ◌+◌, ◌<◌, ◌⊎◌, inl, inr, [], ◌∷◌, length, drop, true, Some, refl, sym, ap, ◌∙◌, subst, arith}
use Rattle.std.proofs.lemmas.List.{drop_all}
use Rattle.facet_format.specs.Bytes.{quote, slash}
use Rattle.facet_json_token.specs.Token.{null, true_literal, false_literal}
use Rattle.facet_format.specs.NumberParts.{starts_number}
use Rattle.facet_json_token.specs.Cut.{start_of, cut_here}
use Rattle.facet_json_token.specs.Open.{IsBeginning}
use Rattle.facet_json_scan.specs.Scanner.{EndsIn, in_digits, answer_for}
use Rattle.facet_json_token.specs.Views.{mode_of}
use Rattle.facet_json_token.proofs.Offsets.{drop-at_byte, slice_get-from_read}
use Rattle.facet_json_token.proofs.FirstBytes.{starts_number-range, cut_here-something}
use Rattle.facet_json_scan.proofs.Segments.{between-first}
use Rattle.facet_json_scan.proofs.Pieces.PendingNumber.{first-ends}
use Rattle.facet_json_scan.proofs.Pieces.Beginnings.{others_shut, nothing_shut}
use Rattle.facet_json_scan.proofs.AnswersOfCuts.{found-here, answered-ends, cut_here-ends}
use Rattle.facet_json_scan.proofs.scanner.token.token_from.Goals as goal
use Rattle.facet_json_scan.proofs.scanner.token.token_from.Goals.{in_default-first-via-then-first-lt48, in_default-first-via-else-first-lt48+else-first-lt58}

pub returns-in_default-clause-here : goal.returns-in_default-clause-here
unfolding cut_here
returns-in_default-clause-here c = λ shut.
    let buffer = c.args.buffer.now in
    let at = c.args.at in
    let mode = mode_of c.args.mode in
    let nothing : drop at buffer ≡ [] = drop_all at buffer c.in_default.ensures.lookup.3 in (
      refl,
      c.eof_at.ensures.token ∙ ap (λ l. Some (answer_for (length buffer) (cut_here mode at l))) (sym nothing),
      λ i. nothing_shut mode (subst (IsBeginning mode) nothing i),
    )

pub cut_token-requires : goal.cut_token-requires
cut_token-requires c =
    slice_get-from_read c.args.buffer.now c.args.at c.in-Some.first.now _ c.in-Some.ensures.lookup.3 refl

pub string_from-requires : goal.string_from-requires
string_from-requires c =
    slice_get-from_read c.args.buffer.now c.args.at c.in-Some.first.now quote c.in-Some.ensures.lookup.3 c.in-34.is

pub returns-in-34-clause-here : goal.returns-in-34-clause-here
returns-in-34-clause-here c = λ shut. c.string_from.ensures.here (mode_of c.args.mode)

pub returns-in-110-clause-here : goal.returns-in-110-clause-here
unfolding start_of
returns-in-110-clause-here c = λ shut.
    c.word_from.ensures.here (mode_of c.args.mode) 110 null (slice_get-from_read c.args.buffer.now c.args.at c.in-Some.first.now 110 c.in-Some.ensures.lookup.3 c.in-110.is) refl refl

pub returns-in-110-clause-within : goal.returns-in-110-clause-within
unfolding start_of
returns-in-110-clause-within c =
    c.word_from.ensures.within 110 null (slice_get-from_read c.args.buffer.now c.args.at c.in-Some.first.now 110 c.in-Some.ensures.lookup.3 c.in-110.is) refl refl

pub returns-in-116-clause-here : goal.returns-in-116-clause-here
unfolding start_of
returns-in-116-clause-here c = λ shut.
    c.word_from-in-116.ensures.here (mode_of c.args.mode) 116 true_literal (slice_get-from_read c.args.buffer.now c.args.at c.in-Some.first.now 116 c.in-Some.ensures.lookup.3 c.in-116.is) refl refl

pub returns-in-116-clause-within : goal.returns-in-116-clause-within
unfolding start_of
returns-in-116-clause-within c =
    c.word_from-in-116.ensures.within 116 true_literal (slice_get-from_read c.args.buffer.now c.args.at c.in-Some.first.now 116 c.in-Some.ensures.lookup.3 c.in-116.is) refl refl

pub returns-in-102-clause-here : goal.returns-in-102-clause-here
unfolding start_of
returns-in-102-clause-here c = λ shut.
    c.word_from-in-102.ensures.here (mode_of c.args.mode) 102 false_literal (slice_get-from_read c.args.buffer.now c.args.at c.in-Some.first.now 102 c.in-Some.ensures.lookup.3 c.in-102.is) refl refl

pub returns-in-102-clause-within : goal.returns-in-102-clause-within
unfolding start_of
returns-in-102-clause-within c =
    c.word_from-in-102.ensures.within 102 false_literal (slice_get-from_read c.args.buffer.now c.args.at c.in-Some.first.now 102 c.in-Some.ensures.lookup.3 c.in-102.is) refl refl

pub returns-in_default-first-clause-here : goal.returns-in_default-first-clause-here
returns-in_default-first-clause-here c = λ shut.
    let buffer = c.args.buffer.now in
    let at = c.args.at in
    let b = c.in-Some.first.now in
    let mode = mode_of c.args.mode in
    let here = slice_get-from_read buffer at b b c.in-Some.ensures.lookup.3 refl in
    let front = drop-at_byte buffer at b here in
    let no_digit : (b < 0x30) ⊎ (0x39 < b) =
    elim c.in_default-first.branch [
      | in_default-first-via-then-first-lt48 w ↦ inl (omega arith)
      | in_default-first-via-else-first-lt48+else-first-lt58 w ↦ inr (omega arith)
    ] in
    let comment : b ≡ slash → IsBeginning mode (b ∷ drop (at + 1) buffer) → ⊥ =
    λ e i. shut (here ∙ ap Some e) (subst (IsBeginning mode) (sym front) i) in
    found-here mode buffer at c.told.result (cut_here mode at (drop at buffer)) (c.told.ensures.answer ∙ c.cut_token.ensures)
    (cut_here-something mode buffer at b here) refl
    (λ i. others_shut mode b _ (omega arith) (omega arith) (omega arith) (omega arith) (omega arith) no_digit comment
    (subst (IsBeginning mode) front i))

pub returns-in_default-first-clause-within : goal.returns-in_default-first-clause-within
returns-in_default-first-clause-within c =
    let buffer = c.args.buffer.now in
    let at = c.args.at in
    let b = c.in-Some.first.now in
    let mode = mode_of c.args.mode in
    let here = slice_get-from_read buffer at b b c.in-Some.ensures.lookup.3 refl in
    let ends =
    answered-ends c.told.result (cut_here mode at (drop at buffer)) _ (c.told.ensures.answer ∙ c.cut_token.ensures)
    (cut_here-ends mode buffer at b here) in
    (omega arith, ends.0, ends.1)

pub returns-in-45-clause-here : goal.returns-in-45-clause-here
returns-in-45-clause-here c = λ shut.
    let buffer = c.args.buffer.now in
    let at = c.args.at in
    let b = c.in-Some.first.now in
    let here = slice_get-from_read buffer at b b c.in-Some.ensures.lookup.3 refl in
    let starts : starts_number b ≡ true =
    starts_number-range b (grind arith) (grind arith) (grind arith) (grind arith) in
    c.number_from.ensures.here
    (subst (EndsIn in_digits) (sym (between-first buffer at b here)) (first-ends b starts)) (mode_of c.args.mode)
