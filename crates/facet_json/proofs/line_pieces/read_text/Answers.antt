-- What a piece does comes after what those before it did.
use Rattle.std.proofs.Common.{[]}
use Rattle.facet_json.proofs.LinePiecesRead.{grows-then, stops-then}
use Rattle.facet_json.proofs.line_pieces.read_text.Goals as goal

pub loop-preserved : goal.loop-preserved
loop-preserved g c = record {
  within = c.in-Ok-None.ensures.within;
  read = grows-then [] _ _ _ _ _ _ c.loop.invariant.read (rw c.in-Ok-None.field-0-is at c.in-Ok-None.ensures.inside);
}

pub returns-in-Ok-Some-clause-stop : goal.returns-in-Ok-Some-clause-stop
returns-in-Ok-Some-clause-stop g c =
    stops-then _ _ _ _ _ _ _ c.in-Ok-Some.stop c.loop.invariant.read (rw c.in-Ok-Some.field-0-is at c.in-Ok-Some.ensures.stop)

pub returns-in-Err-clause-err : goal.returns-in-Err-clause-err
returns-in-Err-clause-err g c = grows-then [] _ _ _ _ _ _ c.loop.invariant.read c.in-Err.ensures.err
