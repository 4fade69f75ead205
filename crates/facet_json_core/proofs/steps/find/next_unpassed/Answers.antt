-- The next key comes after members in sight.
use Rattle.facet_json_core.proofs.SeenValues.{names-next}
use Rattle.facet_json_core.proofs.steps.find.next_unpassed.Goals as goal

pub returns-in-None-clause-passed : goal.returns-in-None-clause-passed
returns-in-None-clause-passed c =
    let passed = c.in-None.ensures in
    let next = c.next_name.ensures in
    (passed.0, passed.1, rw passed.2 (names-next _ _ c.next_name.result next.passed next.next next.member next.onward next.shorter next.free next.lacks next.tells))
