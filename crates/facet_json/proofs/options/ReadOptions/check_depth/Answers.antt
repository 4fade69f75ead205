-- The bracket that the code finds is the one that is too deep, and where it finds none there is none.
use Rattle.std.proofs.Common.{sym, ap}
use Rattle.facet_format.specs.Views.{span_of}
use Rattle.facet_json_tree.specs.Depth.{too_deep_at}
use Rattle.facet_json.proofs.BeyondCounted.{beyond-counted, none-beyond, one-beyond}
use Rattle.facet_json.proofs.options.ReadOptions.check_depth.Goals as goal

pub returns-in-None-clause-shallow : goal.returns-in-None-clause-shallow
returns-in-None-clause-shallow c span beyond =
    none-beyond _ c.in-Some.limit span (rw c.mode.ensures at c.in-None.ensures.first) (rw c.in-Some.is at beyond)

pub returns-in-None-clause-deeper : goal.returns-in-None-clause-deeper
returns-in-None-clause-deeper c = returns-in-None-clause-shallow c

pub returns-in-Some-first_beyond-clause-deeper : goal.returns-in-Some-first_beyond-clause-deeper
returns-in-Some-first_beyond-clause-deeper c span beyond =
    ap too_deep_at (one-beyond _ c.in-Some.limit span (span_of c.in-Some-first_beyond.bracket)
    (rw c.mode.ensures at c.in-Some-first_beyond.ensures.first) (rw c.in-Some.is at beyond))

pub returns-in-Some-first_beyond-clause-only : goal.returns-in-Some-first_beyond-clause-only
returns-in-Some-first_beyond-clause-only c =
    let bracket = span_of c.in-Some-first_beyond.bracket in
    (bracket, rw c.in-Some.is (beyond-counted _ c.in-Some.limit bracket (sym (rw c.mode.ensures at c.in-Some-first_beyond.ensures.first))))
