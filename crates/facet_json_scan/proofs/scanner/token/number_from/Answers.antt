-- Each byte goes on with what was read of the number, and where one doesn't the number is cut.
use Rattle.std.proofs.Common.{◌≡◌, ◌≢◌, ◌+◌, ◌∷◌, ◌++◌, drop, slice_get, Some, get_or, refl, ap, sym, ◌∙◌, subst, arith}
use Rattle.std.proofs.lemmas.Option.{slice_get-get_or}
use Rattle.facet_format.specs.NumberParts.{parts}
use Rattle.facet_json_token.specs.Cut.{nothing_left}
use Rattle.facet_json_scan.specs.Scanner.{EndsIn, Describes}
use Rattle.facet_json_scan.specs.Inner.Found.{number_part_of}
use Rattle.facet_json_scan.proofs.AnswersOfCuts.{found-here}
use Rattle.facet_json_token.proofs.FirstBytes.{cut_here-something}
use Rattle.facet_json_token.proofs.Offsets.{slice_get-from_read, drop-at_byte}
use Rattle.facet_json_scan.proofs.Segments.{between, between-more, between-rest, between-all}
use Rattle.facet_json_token.proofs.NumberCuts.{number_at}
use Rattle.facet_json_scan.proofs.Pieces.PendingNumber.{number-found}
use Rattle.facet_json_scan.proofs.scanner.token.number_from.Goals as goal

pub returns-in_default-after-clause-here : goal.returns-in_default-after-clause-here
returns-in_default-after-clause-here c = λ i mode.
    let buffer = c.args.buffer.now in
    let start = c.args.start in
    let end = c.loop-byte.end in
    let part = number_part_of c.loop-byte.part in
    let text = between buffer start end in
    let first = get_or buffer start 0 in
    let b = c.in-Some.byte.now in
    let here : slice_get buffer start ≡ Some first =
    slice_get-get_or buffer start 0 (omega (arith, c.in-Some.ensures.lookup.3.0)) in
    let stops = slice_get-from_read buffer end b b c.in-Some.ensures.lookup.3 refl in
    let whole : drop start buffer ≡ text ++ b ∷ drop (end + 1) buffer =
    between-rest buffer start end (omega arith) (omega arith) ∙ ap (λ l. text ++ l) (drop-at_byte buffer end b stops) in
    let ends : EndsIn part text = c.loop-byte.invariant.ends i in
    let same : parts (drop start buffer) ≡ parts text =
    ap parts whole ∙ c.in_default-after.ensures text (drop (end + 1) buffer) ends in
    let found =
    number-found mode buffer start end first part (omega arith) (omega (arith, c.in-Some.ensures.lookup.3.0)) here ends
    same in
    let some : number_at start (drop (start + 1) buffer) (parts text) ≢ nothing_left =
    λ e. cut_here-something mode buffer start first here (sym found.0 ∙ e) in
    found-here mode buffer start c.number_token.result (number_at start (drop (start + 1) buffer) (parts text))
    (c.number_token.ensures.token ends same) some found.0 found.1

pub returns-in_default-after-clause-refusal : goal.returns-in_default-after-clause-refusal
returns-in_default-after-clause-refusal c = λ mode. c.number_token.ensures.refusal mode

pub loop-byte-preserved : goal.loop-byte-preserved
loop-byte-preserved c =
    let buffer = c.args.buffer.now in
    let start = c.args.start in
    let end = c.loop-byte.end in
    let b = c.in-Some.byte.now in
    let here = slice_get-from_read buffer end b b c.in-Some.ensures.lookup.3 refl in
    record {
      ahead = omega arith;
      within = omega (arith, c.in-Some.ensures.lookup.3.0);
      ends = λ i.
          subst (EndsIn (number_part_of c.in-Some-after.next)) (sym (between-more buffer start end b (omega arith) here))
          (c.in-Some-after.ensures (between buffer start end) (c.loop-byte.invariant.ends i));
    }

pub returns-clause-here : goal.returns-clause-here
returns-clause-here c = λ i mode.
    let buffer = c.args.buffer.now in
    let start = c.args.start in
    let end = c.loop-byte.end in
    let part = number_part_of c.loop-byte.part in
    let all = between-all buffer start end c.in_default.ensures.lookup.3 in
    (refl, Describes.number mode part (drop start buffer) (subst (EndsIn part) all (c.loop-byte.invariant.ends i)))
