use Rattle.std.proofs.Common.{refl}
use Rattle.facet_json_parser.proofs.PointsByPlace.{all-missing, point-taken, taken-out}
use Rattle.facet_json_parser.proofs.points.bring_back.Goals as goal

pub returns-in_err-at : goal.returns-in_err-at
returns-in_err-at c =
    let all = rw c.deref.ensures.value at c.in_err-at.ensures in
    rw c.from_residual.ensures (all-missing _ _ all, refl)

pub returns : goal.returns
returns c =
    let there = rw c.deref.ensures.value at c.in_ok-at.ensures in
    λ buffer language counter a.
    taken-out _ _ _ _ _ (point-taken buffer language counter _ _ _ c.remove.result there.0 (there.1 c.remove.result) a) c.remove.ensures.value c.remove.ensures.items
