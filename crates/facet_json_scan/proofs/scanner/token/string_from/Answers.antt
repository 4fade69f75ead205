-- A string that ends is cut whole, and nothing longer begins.
use Rattle.std.proofs.Common.{◌+◌, ◌-◌, false, [], refl, sym, ◌∙◌, subst, arith}
use Rattle.facet_format.specs.Bytes.{quote}
use Rattle.facet_format.specs.Span.{span_at}
use Rattle.facet_json_token.specs.Token.{string}
use Rattle.facet_json_token.specs.Cut.{token_at}
use Rattle.facet_json_token.specs.Shape.{ArePieces}
use Rattle.facet_json_scan.specs.Scanner.{Describes, in_text}
use Rattle.facet_json_scan.proofs.AnswersOfCuts.{found-here, answered-ends}
use Rattle.facet_json_scan.proofs.Pieces.PendingText.{text-whole}
use Rattle.facet_json_scan.proofs.Refusals.{token-no_refusal}
use Rattle.facet_json_scan.proofs.Segments.{between-first}
use Rattle.facet_json_scan.proofs.scanner.token.string_from.Goals as goal

pub returns-in_default-clause-here : goal.returns-in_default-clause-here
returns-in_default-clause-here c = λ mode.
    c.text_from.ensures.here mode
    (subst (Describes mode (in_text false false)) (sym (between-first c.args.buffer.now c.args.at quote c.requires))
    (Describes.text mode [] false ArePieces.none))

pub returns-clause-here : goal.returns-clause-here
returns-clause-here c = λ mode.
    let buffer = c.args.buffer.now in
    let at = c.args.at in
    let end = c.in-Some.end in
    let token = c.in-Some.ensures.token mode in
    found-here mode buffer at c.told.result (token_at (string (at + 1) end false) at ((end + 1) - at))
    (c.told.ensures.answer ∙ c.token_at.ensures (string (at + 1) end false) refl) (λ x. cc) (sym token) (text-whole mode buffer at _ _ c.requires token)

pub returns-clause-within : goal.returns-clause-within
returns-clause-within c =
    let at = c.args.at in
    let end = c.in-Some.end in
    let within = c.in-Some.ensures.within in
    let ends =
    answered-ends c.told.result (token_at (string (at + 1) end false) at ((end + 1) - at)) _
    (c.told.ensures.answer ∙ c.token_at.ensures (string (at + 1) end false) refl)
    (omega (arith, within), (omega (arith, within), omega (arith, within))) in
    (omega (arith, within), ends.0, ends.1)

pub returns-clause-refusal : goal.returns-clause-refusal
returns-clause-refusal c = λ mode.
    let at = c.args.at in
    let end = c.in-Some.end in
    token-no_refusal c.told.result (record { kind = string (at + 1) end false; span = span_at at ((end + 1) - at) }) _
    (c.told.ensures.answer ∙ c.token_at.ensures (string (at + 1) end false) refl)
