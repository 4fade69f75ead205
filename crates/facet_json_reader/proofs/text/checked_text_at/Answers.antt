-- A run of ordinary bytes up to a quote is the text of a string.
use Rattle.std.proofs.Common.{◌+◌}
use Rattle.facet_format.specs.Bytes.{quote}
use Rattle.facet_json_token.proofs.Offsets.{slice_get-from_read}
use Rattle.facet_json_reader.proofs.TextRuns.{run-text, ordinary-IsClosedAt}
use Rattle.facet_json_reader.proofs.text.checked_text_at.Goals as goal

pub plain_text_unchecked-requires-clause-plain : goal.plain_text_unchecked-requires-clause-plain
plain_text_unchecked-requires-clause-plain c =
    let buffer = c.args.input.now in
    let end = c.run_end-end.result in
    let w = c.in-Some-eq34 in
    let closes = slice_get-from_read buffer end w.field-0.now quote w.ensures.lookup.3 w.field-0-test in
    (ordinary-IsClosedAt c.args.least buffer c.args.at end c.run_end-end.ensures.value closes c.requires.here).plain

pub plain_text_unchecked-requires-clause-utf8 : goal.plain_text_unchecked-requires-clause-utf8
plain_text_unchecked-requires-clause-utf8 c =
    run-text c.args.least c.args.input.now (c.args.at + 1) c.run_end-end.result c.run_end-end.ensures.value

pub returns-in-Some-eq34 : goal.returns-in-Some-eq34
returns-in-Some-eq34 c =
    let buffer = c.args.input.now in
    let end = c.run_end-end.result in
    let w = c.in-Some-eq34 in
    let closes = slice_get-from_read buffer end w.field-0.now quote w.ensures.lookup.3 w.field-0-test in
    let closed = ordinary-IsClosedAt c.args.least buffer c.args.at end c.run_end-end.ensures.value closes c.requires.here in
    record {
      text = record { cut = closed.cut; means = c.plain_text_unchecked.ensures.text };
      unescaped = closed.unescaped;
      within = (closed.ordered, closed.within);
    }
