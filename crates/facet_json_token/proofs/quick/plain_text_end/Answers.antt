-- The run of plain bytes ends at the quote that closes the string.
use Rattle.std.proofs.Common.{◌≡◌, ◌+◌, false, drop, Some, sym, ◌∙◌, refl}
use Rattle.std.specs.Option.{option_map}
use Rattle.facet_format.specs.Bytes.{quote}
use Rattle.facet_json_token.specs.Cut.{content_len, opens_text, start_of}
use Rattle.facet_json_token.proofs.FirstBytes.{cut_here-by}
use Rattle.facet_json_token.proofs.Offsets.{slice_get-from_read}
use Rattle.facet_json_token.proofs.TextSteps.{content-ends, cut_text-ends}
use Rattle.facet_json_token.proofs.TextWindows.{content-after_run, marks-of_run}
use Rattle.facet_json_token.proofs.quick.plain_text_end.Goals as goal

pub returns-in-Some-eq34-clause-token : goal.returns-in-Some-eq34-clause-token
unfolding start_of
returns-in-Some-eq34-clause-token c =
    λ mode.
    let buffer = c.args.buffer.now in
    let at = c.args.at in
    let end = c.run_end-end.result in
    let rest = drop (at + 1) buffer in
    let here = slice_get-from_read buffer end c.in-Some-eq34.field-0.now quote c.in-Some-eq34.ensures.lookup.3 c.in-Some-eq34.field-0-test in
    let found : Some end ≡ option_map (λ n. (at + 1) + n) (content_len false rest) =
    content-ends buffer end here ∙ content-after_run buffer (at + 1) end c.run_end-end.ensures.value in
    sym (cut_text-ends at end rest false (content_len false rest) found (marks-of_run buffer (at + 1) end c.run_end-end.ensures.value)
    ∙ cut_here-by mode buffer at quote opens_text c.requires refl)
