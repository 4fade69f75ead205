-- A token that ends before the buffer does is cut there, whatever follows.
use Rattle.std.proofs.Common.{◌≡◌, ◌<◌, false, length, drop, Ok, Some, refl, ap, sym, ◌∙◌, arith, rules}
use Rattle.std.proofs.lemmas.Bool.{ne_eqb}
use Rattle.facet_format.specs.Bytes.{slash, is_space}
use Rattle.facet_format.specs.Span.{stop}
use Rattle.facet_format.specs.Views.{span_of}
use Rattle.facet_json_token.specs.Cut.{cut_here}
use Rattle.facet_json_token.specs.Gap.{growing}
use Rattle.facet_json_token.specs.GapLen.{piece_len}
use Rattle.facet_json_token.specs.Views.{mode_of}
use Rattle.facet_json_token.proofs.FirstBytes.{cut_here-something}
use Rattle.facet_json_token.proofs.InSight.{above_space, cut-here}
use Rattle.facet_json_token.proofs.Offsets.{drop-at_byte, slice_get-from_read}
use Rattle.facet_json_scan.specs.declared.scanner.token.Found.TheVariants as found
use Rattle.facet_json_scan.proofs.AnswersOfCuts.{found-here, answered-ends, cut_here-ends}
use Rattle.facet_json_scan.proofs.FoundPastGap.{found-no_gap}
use Rattle.facet_json_scan.proofs.NoPiece.{no_piece}
use Rattle.facet_json_scan.proofs.WholeTokens.{answer-shut}
use Rattle.facet_json_scan.proofs.scanner.whole.whole_token.Goals as goal

pub returns-then-end-buffer : goal.returns-then-end-buffer
returns-then-end-buffer c =
    let buffer = c.args.buffer.now in
    let at = c.args.at in
    let mode = mode_of c.args.mode in
    let t = c.in-Ok.token in
    let b = c.in_ok-first.field-0.now in
    let here = slice_get-from_read buffer at b b c.in_ok-first.ensures.lookup.3 refl in
    let no_space : is_space b ≡ false = above_space b (omega arith) in
    let no_slash = ne_eqb b slash (λ (e : b ≡ slash). omega (arith, e)) in
    let none : piece_len mode growing (drop at buffer) ≡ 0 = ap (piece_len mode growing) (drop-at_byte buffer at b here) ∙ no_piece mode growing b _ no_space no_slash in
    let is = c.in-Ok.ensures.answer ∙ ap Some (sym (cut-here mode buffer at b here no_space no_slash)) in
    let some = cut_here-something mode buffer at b here in
    let short : stop (span_of t.span) < length buffer = omega (arith, c.end.ensures.end, c.if-end-buffer.true) in
    let shut = answer-shut mode buffer at b t here (omega (arith, c.in_ok-first.ensures.lookup.3.0)) is some short in
    let ends = answered-ends (Ok t) (cut_here mode at (drop at buffer)) _ is (cut_here-ends mode buffer at b here) in (
      found-no_gap mode buffer at (found.Answer at (Ok t)) c.requires none (found-here mode buffer at (Ok t) _ is some refl shut),
      (c.requires, ends.0, ends.1),
    )

pub returns-in_err-first : goal.returns-in_err-first
returns-in_err-first c = search rules

pub returns-then-first-le32 : goal.returns-then-first-le32
returns-then-first-le32 c = search rules

pub returns-else-end-buffer : goal.returns-else-end-buffer
returns-else-end-buffer c = search rules
