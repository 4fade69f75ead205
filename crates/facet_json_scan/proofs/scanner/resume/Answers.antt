-- A string or a number goes on where no gap is before it.
use Rattle.std.proofs.Common.{rules, drop, subst, arith}
use Rattle.facet_json_scan.specs.Scanner.{Describes}
use Rattle.facet_json_token.specs.Views.{mode_of}
use Rattle.facet_json_scan.specs.Inner.Found.{state_of, number_part_of}
use Rattle.facet_json_scan.proofs.Segments.{between}
use Rattle.facet_json_scan.proofs.FoundPastGap.{found-goes_on}
use Rattle.facet_json_scan.proofs.NoPiece.{text_no_piece, number_no_piece}
use Rattle.facet_json_scan.proofs.Pieces.PendingNumber.{number-ends}
use Rattle.facet_json_scan.proofs.scanner.resume.Goals as goal

pub returns-in-Text-clause-here : goal.returns-in-Text-clause-here
returns-in-Text-clause-here c = λ h.
    let mode = mode_of c.args.mode in
    let text = between c.args.buffer.now c.args.pending.start c.args.at in
    let described = subst (λ s. Describes mode (state_of s) text) c.in-Text.is h in
    found-goes_on mode c.args.buffer.now c.args.pending.start c.args.at c.text_from.result (omega arith) c.requires.room
    (text_no_piece mode c.in-Text.escaped c.in-Text.has_escapes text (drop c.args.at c.args.buffer.now) described)
    (c.text_from.ensures.here mode described)

pub returns-in-Number-clause-here : goal.returns-in-Number-clause-here
returns-in-Number-clause-here c = λ h.
    let mode = mode_of c.args.mode in
    let text = between c.args.buffer.now c.args.pending.start c.args.at in
    let part = number_part_of c.in-Number.part in
    let ends = number-ends mode part text (subst (λ s. Describes mode (state_of s) text) c.in-Number.is h) in
    found-goes_on mode c.args.buffer.now c.args.pending.start c.args.at c.number_from.result (omega arith) c.requires.room
    (number_no_piece mode part text (drop c.args.at c.args.buffer.now) ends) (c.number_from.ensures.here ends mode)

pub returns-in-Line-clause-here : goal.returns-in-Line-clause-here
returns-in-Line-clause-here c = search rules

pub returns-in-Text-clause-refusal : goal.returns-in-Text-clause-refusal
returns-in-Text-clause-refusal c = c.text_from.ensures.refusal (mode_of c.args.mode)

pub returns-in-Number-clause-refusal : goal.returns-in-Number-clause-refusal
returns-in-Number-clause-refusal c = c.number_from.ensures.refusal (mode_of c.args.mode)

pub returns-in-Line-clause-within : goal.returns-in-Line-clause-within
returns-in-Line-clause-within c = search rules

pub returns-in-Line-clause-refusal : goal.returns-in-Line-clause-refusal
returns-in-Line-clause-refusal c = search rules
