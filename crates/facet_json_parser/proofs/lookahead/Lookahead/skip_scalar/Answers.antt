-- A scalar that stands first is its own run.
use Rattle.std.proofs.Common.{Ok, rules}
use Rattle.facet_format.specs.Views.{span_of}
use Rattle.facet_json_grammar.specs.Language.{gaps}
use Rattle.facet_json_reader.specs.PlaceViews.{language_of}
use Rattle.facet_json_parser.specs.Lookahead.{reader_before}
use Rattle.facet_json_parser.specs.Views.{lookahead_of}
use Rattle.facet_json_parser.specs.declared.part.Part.TheVariants as parts
use Rattle.facet_json_parser.proofs.PassedParts.{value-skips}
use Rattle.facet_json_parser.proofs.RunSteps.{scalar-ends}
use Rattle.facet_json_parser.proofs.SkippedParts.{skip-passes}
use Rattle.facet_json_parser.proofs.lookahead.Lookahead.skip_scalar.Goals as goal

pub returns-clause-passed : goal.returns-clause-passed
returns-clause-passed c done =
    let buffer = c.args.input.now in
    let language = language_of c.args.language in
    let f = lookahead_of c.args.self.now in
    let scalar = c.in-Some.scalar in
    let first = c.in-Some.ensures.found (reader_before f).stack in
    let run = scalar-ends buffer (gaps language) first.kind (span_of scalar.span) (c.in-Some.ensures.scalar first.kind first.begins.0) in
    let skipped = value-skips buffer language (reader_before f) (span_of scalar.span) scalar first (Ok scalar.span) run in
    skip-passes buffer language f (lookahead_of c.leave.new.self) (parts.Value scalar) (span_of scalar.span) (span_of scalar.span) skipped c.leave.ensures

pub returns-clause-sound : goal.returns-clause-sound
returns-clause-sound c = search rules
