-- The run ends at the quote that closes the string, sought from its start or from a place within it.
use Rattle.std.proofs.Common.{◌≡◌, ◌+◌, ◌∙◌, drop, sym, arith}
use Rattle.std.specs.List.{prefix_len}
use Rattle.std.proofs.lemmas.List.{length-drop}
use Rattle.std.proofs.lemmas.List.Sums.{prefix_len-le-length}
use Rattle.std.proofs.lemmas.Option.{slice_get_within}
use Rattle.facet_format.specs.Bytes.{quote}
use Rattle.facet_format.proofs.Windows.{run_within}
use Rattle.facet_json_token.proofs.Offsets.{slice_get-from_read}
use Rattle.facet_json_reader.specs.Inner.Window.{is_unescaped}
use Rattle.facet_json_reader.proofs.TextRuns.{run-IsClosedAt}
use Rattle.facet_json_reader.proofs.text.closing_quote.Goals as goal

pub run_end-end-requires : goal.run_end-end-requires
run_end-end-requires c =
    let buffer = c.args.input.now in
    let start = c.args.at + 1 in
    omega (
      arith,
      prefix_len-le-length (is_unescaped c.args.least) (drop start buffer),
      length-drop start buffer,
      slice_get_within buffer c.args.at quote c.requires.here,
    )

pub returns-in-Some-eq34-clause-closed : goal.returns-in-Some-eq34-clause-closed
returns-in-Some-eq34-clause-closed c =
    let least = c.args.least in
    let buffer = c.args.input.now in
    let start = c.args.at + 1 in
    let end = c.run_end-end.result in
    let w = c.in-Some-eq34 in
    let same = run_within (is_unescaped least) buffer start c.args.from (omega arith) c.requires.passed in
    let run : end ≡ start + prefix_len (is_unescaped least) (drop start buffer) = c.run_end-end.ensures.value ∙ sym same in
    run-IsClosedAt least (is_unescaped least) (λ b e. e) buffer c.args.at end run
    (slice_get-from_read buffer end w.field-0.now quote w.ensures.lookup.3 w.field-0-test) c.requires.here
