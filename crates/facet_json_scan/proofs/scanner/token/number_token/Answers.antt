-- The part and the first byte tell the token, and a minus alone is refused.
use Rattle.std.proofs.Common.{◌≡◌, ◌+◌, ◌-◌, ◌≤◌, length, drop, slice_get, Some, get_or, refl, ap, ◌∙◌, arith}
use Rattle.std.proofs.lemmas.Option.{slice_get-get_or}
use Rattle.facet_format.specs.Bytes.{minus}
use Rattle.facet_format.specs.Span.{span_at, stop}
use Rattle.facet_json_token.specs.Gap.{plain}
use Rattle.facet_json_token.specs.Token.{Kind, number}
use Rattle.facet_format.specs.Views.{hint_of}
use Rattle.facet_json_token.specs.Cut.{token_at}
use Rattle.facet_json_scan.specs.Inner.Found.{number_part_of}
use Rattle.facet_json_scan.specs.ScannerViews.{span_answered, IndicesWithin}
use Rattle.facet_json_scan.proofs.AnswersOfCuts.{answered-ends, number-answered}
use Rattle.facet_json_token.proofs.NumberCuts.{number_at}
use Rattle.facet_json_scan.proofs.Pieces.PendingNumber.{number-token}
use Rattle.facet_json_scan.proofs.Refusals.{token-no_refusal, minus-refused}
use Rattle.facet_json_scan.proofs.scanner.token.number_token.Goals as goal
use Rattle.facet_json_scan.proofs.scanner.token.number_token.Goals.{else-is_negative-via-then-is_negative+else-end-start, else-is_negative-via-else-is_negative}

pub returns-then-end-start-clause-token : goal.returns-then-end-start-clause-token
returns-then-end-start-clause-token c = λ i same.
    let buffer = c.args.buffer.now in
    let start = c.args.start in
    c.told.ensures.answer ∙ c.cut_number.ensures ∙ ap (λ p. Some (number_at start (drop (start + 1) buffer) p)) same

-- a minus stands there
minus_there : (c : goal.After-told) → slice_get c.args.buffer.now c.args.start ≡ Some minus
minus_there c = slice_get-get_or c.args.buffer.now c.args.start 0 (omega arith) ∙ ap Some c.if-is_negative.true

answered : (c : goal.After-told) → let last = length c.args.buffer.now in
    (stop (span_answered c.told.result) ≤ last) × IndicesWithin last c.told.result
answered c =
    number-answered plain c.args.buffer.now c.args.start minus c.told.result (minus_there c) refl (c.told.ensures.answer ∙ c.cut_number.ensures)

pub returns-then-end-start-clause-refusal : goal.returns-then-end-start-clause-refusal
returns-then-end-start-clause-refusal c = λ mode.
    minus-refused mode c.args.buffer.now c.args.start c.told.result (minus_there c) (omega arith) (c.told.ensures.answer ∙ c.cut_number.ensures)

pub returns-then-end-start-clause-span : goal.returns-then-end-start-clause-span
returns-then-end-start-clause-span c = (answered c).0

pub returns-then-end-start-clause-indices : goal.returns-then-end-start-clause-indices
returns-then-end-start-clause-indices c = (answered c).1

pub returns-clause-token : goal.returns-clause-token
returns-clause-token c = λ i same.
    let buffer = c.args.buffer.now in
    let start = c.args.start in
    let end = c.args.end in
    let b = get_or buffer start 0 in
    let here : slice_get buffer start ≡ Some b = slice_get-get_or buffer start 0 (omega arith) in
    let more : b ≡ minus → end ≡ start + 1 → ⊥ =
    λ m e. elim c.else-is_negative.branch [
      | else-is_negative-via-then-is_negative+else-end-start w ↦ w.if-end-start.false e
      | else-is_negative-via-else-is_negative w ↦ w.if-is_negative.false m
    ] in
    c.told-2.ensures.answer ∙ c.token_at.ensures (number start end (hint_of c.hint.result)) refl
    ∙ ap (λ h. Some (token_at (number start end h) start (end - start))) c.hint.ensures
    ∙ ap Some (number-token buffer (drop (start + 1) buffer) start end b (number_part_of c.args.part) c.requires.order
    (omega arith) here more i)

abbrev kind_of_it : (c : goal.After-told-2) → Kind
kind_of_it c = number c.args.start c.args.end (hint_of c.hint.result)

pub returns-clause-refusal : goal.returns-clause-refusal
returns-clause-refusal c = λ mode.
    token-no_refusal c.told-2.result (record { kind = kind_of_it c; span = span_at c.args.start (c.args.end - c.args.start) }) _
    (c.told-2.ensures.answer ∙ c.token_at.ensures (kind_of_it c) refl)

token_answered : (c : goal.After-told-2) → let last = length c.args.buffer.now in
    (stop (span_answered c.told-2.result) ≤ last) × IndicesWithin last c.told-2.result
token_answered c =
    answered-ends c.told-2.result (token_at (kind_of_it c) c.args.start (c.args.end - c.args.start)) _
    (c.told-2.ensures.answer ∙ c.token_at.ensures (kind_of_it c) refl) (omega arith, (omega arith, omega arith))

pub returns-clause-span : goal.returns-clause-span
returns-clause-span c = (token_answered c).0

pub returns-clause-indices : goal.returns-clause-indices
returns-clause-indices c = (token_answered c).1
