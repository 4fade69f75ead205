use Rattle.std.proofs.Common.{sym}
use Rattle.std.proofs.lemmas.Result.{err_from_is_err_and}
use Rattle.facet_format.specs.Views.{span_of}
use Rattle.facet_json_reader.specs.PlaceViews.{language_of}
use Rattle.facet_json_parser.specs.Lookahead.{reader_before}
use Rattle.facet_json_parser.specs.Views.{lookahead_of}
use Rattle.facet_json_parser.proofs.SkippedParts.{capture-passes, capture-refused, capture-nothing}
use Rattle.facet_json_parser.proofs.lookahead.Lookahead.capture.Goals as goal

pub returns-in_err-part-clause-passed : goal.returns-in_err-part-clause-passed
returns-in_err-part-clause-passed c =
    let f = lookahead_of c.args.self.now in
    let language = language_of c.args.language in
    let p = err_from_is_err_and c.from_residual.result c.from_residual.ensures.1 in
    let stands = c.in_err-part.ensures.nothing (reader_before f).stack in
    rw (p.1, p.2) (capture-nothing c.args.input.now language f _ stands)

pub returns-in_err-text-clause-passed : goal.returns-in_err-text-clause-passed
returns-in_err-text-clause-passed c =
    let f = lookahead_of c.args.self.now in
    let language = language_of c.args.language in
    let mode = sym c.mode-mode.ensures in
    let p = err_from_is_err_and c.from_residual-in_err-text.result c.from_residual-in_err-text.ensures.1 in
    let first = c.in_ok-part.ensures.found (reader_before f).stack in
    let refused = c.in_err-text.ensures.captures language (reader_before f) mode first in
    let last = c.span.ensures c.args.input.now language c.requires.sound.filled in
    rw (p.1, p.2) (capture-refused c.args.input.now language f c.in_ok-part.part (span_of c.span.result) _ refused last)

pub returns-clause-passed : goal.returns-clause-passed
returns-clause-passed c =
    let f = lookahead_of c.args.self.now in
    let language = language_of c.args.language in
    let mode = sym c.mode-mode.ensures in
    let first = c.in_ok-part.ensures.found (reader_before f).stack in
    let passed = c.in_ok-text.ensures.captures language (reader_before f) mode first in
    capture-passes c.args.input.now language f (lookahead_of c.leave.new.self) c.in_ok-part.part (span_of c.span.result) (span_of c.in_ok-text.last) c.in_ok-text.text.now passed c.leave.ensures
