-- A run of ordinary bytes up to a quote is the text of a string.
use Rattle.std.proofs.Common.{◌+◌}
use Rattle.facet_format.specs.Bytes.{quote}
use Rattle.facet_json_token.proofs.Offsets.{slice_get-from_read}
use Rattle.facet_json_reader.proofs.TextRuns.{run-text, ordinary-IsClosedAt}
use Rattle.facet_json_reader.proofs.text.text_end.Goals as goal

pub returns-in-Some-eq34 : goal.returns-in-Some-eq34
returns-in-Some-eq34 c =
    let buffer = c.args.input.now in
    let at = c.args.at in
    let end = c.run_end-end.result in
    let w = c.in-Some-eq34 in
    let closes = slice_get-from_read buffer end w.field-0.now quote w.ensures.lookup.3 w.field-0-test in
    let least = c.least_in-least.ensures in
    let closed = ordinary-IsClosedAt c.least_in-least.result buffer at end c.run_end-end.ensures.value closes c.requires in
    let utf8 = run-text c.least_in-least.result buffer (at + 1) end c.run_end-end.ensures.value in
    (rw least at closed, utf8)
