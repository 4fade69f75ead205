-- What a parser's lookahead and its points stand for in the definitions.
use Rattle.std.specs.Prelude.{ℕ, List, map, Option}
use Rattle.std.specs.Option.{option_map}
use Rattle.facet_json_parser.specs.declared.lookahead.Lookahead.{Lookahead as RustLookahead}
use Rattle.facet_json_parser.specs.declared.points.Point.{Point}
use Rattle.facet_json_reader.specs.declared.place.Language.{Language}
use Rattle.facet_json_reader.specs.declared.refusal.Refused.{Refused}
use Rattle.facet_format.specs.Complaint.{Refusal}
use Rattle.facet_format.specs.Cursor.{Spot, Cursor}
use Rattle.facet_json_grammar.specs.Reader.{Reader}
use Rattle.facet_json_grammar.specs.Now.{Now}
use Rattle.facet_json_reader.specs.PlaceViews.{language_of, refused_of}
use Rattle.facet_json_reader.specs.Views.{passed_of, reader_of}
use Rattle.facet_json_parser.specs.Lookahead.{Lookahead, spot_of}

abbrev pub lookahead_of : RustLookahead → Lookahead
lookahead_of s = record { reader = reader_of s.reader; held = option_map passed_of s.held; shown = s.shown }

abbrev pub point_of : Point → ℕ × Lookahead
point_of p = (p.number, lookahead_of p.lookahead)

-- the spot that is kept under the point's number
abbrev pub kept_spot : ℕ × Lookahead → ℕ × Spot Reader
kept_spot point = (point.0, spot_of point.1)

abbrev pub cursor_of : Lookahead → Option Refusal → List (ℕ × Lookahead) → ℕ → Cursor Reader
cursor_of f refusal points counter = record {
  spot = spot_of f;
  refusal = refusal;
  kept = map kept_spot points;
  counter = counter;
}

-- what a parser with these fields is
abbrev pub now_of : List ℕ → Language → RustLookahead → Option Refused → List Point → ℕ → Now
now_of input language lookahead refusal points counter = record {
  buffer = input;
  language = language_of language;
  cursor = cursor_of (lookahead_of lookahead) (option_map refused_of refusal) (map point_of points) counter;
}
