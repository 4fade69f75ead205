use Rattle.std.proofs.Common.{◌≤◌, [], vec_len}
use Rattle.facet_json.specs.Inner.LinePieces.{LineGrows}
use Rattle.facet_json.proofs.line_pieces.read_text.Given as goal

abbrev pub invariant-loop : goal.invariant-loop
invariant-loop g l = record {
  within : vec_len l.text ≤ l.limit;
  read : LineGrows [] (g.R.Read.remaining l.initial.reader) (g.R.Read.remaining l.reader) l.initial.text.items l.text.items;
}
