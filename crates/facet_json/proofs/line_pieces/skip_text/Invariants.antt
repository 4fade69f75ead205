use Rattle.facet_json.specs.Inner.LinePieces.{KeepsNext}
use Rattle.facet_json.proofs.line_pieces.skip_text.Given as goal

abbrev pub invariant-loop : goal.invariant-loop
invariant-loop g l = KeepsNext (g.R.Read.remaining l.initial.reader) (g.R.Read.remaining l.reader)
