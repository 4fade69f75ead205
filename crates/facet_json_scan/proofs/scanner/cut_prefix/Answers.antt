-- What is cut of the prefix is answered.
use Rattle.std.proofs.Common.{◌≡◌, ◌≤◌, length, take, Some, ap, ◌∙◌, subst, arith}
use Rattle.std.proofs.lemmas.List.{length-take-le}
use Rattle.facet_format.specs.Span.{stop}
use Rattle.facet_json_token.specs.Cut.{cut}
use Rattle.facet_json_scan.specs.Scanner.{answer_for}
use Rattle.facet_json_token.specs.Views.{mode_of}
use Rattle.facet_json_scan.specs.ScannerViews.{span_answered, IndicesWithin}
use Rattle.facet_json_token.proofs.CutBounds.{cut-fits}
use Rattle.facet_json_scan.proofs.AnswersOfCuts.{answered-cut_or_end, answered-end_within, fits-within}
use Rattle.facet_json_scan.proofs.scanner.cut_prefix.Goals as goal

size : (c : goal.After-cut) → length (take c.args.end c.args.buffer.now) ≡ c.args.end
size c = length-take-le c.args.end c.args.buffer.now c.requires.room

within : (c : goal.After-cut) → let last = length (take c.args.end c.args.buffer.now) in
    (stop (span_answered c.cut.result) ≤ last) × IndicesWithin last c.cut.result
within c =
    let front = take c.args.end c.args.buffer.now in
    let mode = mode_of c.args.mode in
    let fits = cut-fits front c.args.first mode (omega (arith, size c)) in
    answered-end_within c.cut.result (cut front c.args.first mode) (length front) c.cut.ensures.answer
    c.cut.ensures.end (fits-within front c.args.first _ fits)

pub returns-clause-token : goal.returns-clause-token
returns-clause-token c =
    let front = take c.args.end c.args.buffer.now in
    let cuts = cut front c.args.first (mode_of c.args.mode) in
    answered-cut_or_end c.cut.result cuts (length front) c.cut.ensures.answer c.cut.ensures.end
    ∙ ap (λ n. Some (answer_for n cuts)) (size c)

pub returns-clause-span : goal.returns-clause-span
returns-clause-span c = omega (arith, size c, (within c).0)

pub returns-clause-indices : goal.returns-clause-indices
returns-clause-indices c = subst (λ n. IndicesWithin n c.cut.result) (size c) (within c).1
