use Rattle.std.proofs.Common.{ap, map, rules}
use Rattle.facet_json_reader.specs.PlaceViews.{language_of}
use Rattle.facet_json_parser.specs.Views.{lookahead_of, point_of}
use Rattle.facet_json_parser.proofs.ParserWithin.{first-ready}
use Rattle.facet_json_parser.proofs.parser.JsonParser.in_language.Goals as goal

pub invariant_of-result : goal.invariant_of-result
invariant_of-result c = (
  first-ready c.args.input.now (language_of c.args.language) (lookahead_of c.new.result) (map point_of c.new-2.result.items) c.new.ensures
      (ap (map point_of) c.new-2.ensures.items),
  c.requires.utf8,
)

pub returns : goal.returns
returns c = search rules
