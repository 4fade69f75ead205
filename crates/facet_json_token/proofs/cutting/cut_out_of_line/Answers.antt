-- What stands after the gap is what is cut.
use Rattle.std.proofs.Common.{◌≡◌, drop, length, Some, refl, ap, ap₂, sym, ◌∙◌}
use Rattle.std.proofs.lemmas.List.{drop_all}
use Rattle.facet_json_token.specs.Views.{mode_of}
use Rattle.facet_format.specs.Views.{span_of}
use Rattle.facet_json_token.specs.Cut.{cut, cut_here}
use Rattle.facet_format.specs.Span.{span_at}
use Rattle.facet_json_token.proofs.Offsets.{slice_get-from_read}
use Rattle.facet_json_token.proofs.FirstBytes.{cut_here-something, no_end}
use Rattle.facet_json_token.proofs.cutting.cut_out_of_line.Goals as goal

pub returns-in-Some-clause-answer : goal.returns-in-Some-clause-answer
unfolding cut
returns-in-Some-clause-answer c =
    let buffer = c.args.buffer.now in
    let mode = mode_of c.args.mode in
    c.cut_token.ensures ∙ ap (λ n. Some (cut_here mode n (drop n buffer))) c.skip_gap-at.ensures.end

pub returns-in-Some-clause-end : goal.returns-in-Some-clause-end
returns-in-Some-clause-end c =
    let buffer = c.args.buffer.now in
    let mode = mode_of c.args.mode in
    let at = c.skip_gap-at.result in
    let b = c.in-Some.first.now in
    let here = slice_get-from_read buffer at b b c.in-Some.ensures.lookup.3 refl in
    no_end c.cut_token.result (cut_here mode at (drop at buffer)) (λ t. span_of t.span ≡ span_at (length buffer) 0)
    c.cut_token.ensures (cut_here-something mode buffer at b here)

pub returns-in-None-clause-answer : goal.returns-in-None-clause-answer
unfolding cut cut_here
returns-in-None-clause-answer c =
    let buffer = c.args.buffer.now in
    let mode = mode_of c.args.mode in
    let at = c.skip_gap-at.result in
    let nothing = drop_all at buffer c.in-None.ensures.lookup.3 in
    ap (λ l. Some (cut_here mode at l)) (sym nothing)
    ∙ ap (λ n. Some (cut_here mode n (drop n buffer))) c.skip_gap-at.ensures.end

pub returns-in-None-clause-end : goal.returns-in-None-clause-end
returns-in-None-clause-end c = λ _. ap₂ span_at c.new.ensures.offset c.new.ensures.len
