-- The next key comes after members in sight.
use Rattle.facet_json_core.proofs.SeenValues.{names-next}
use Rattle.facet_json.proofs.fields.next_unread.Goals as goal

pub returns-in-None-clause-put : goal.returns-in-None-clause-put
returns-in-None-clause-put g c =
    λ others inside.
    let next = c.next_name.ensures in (
      c.members_in_sight.new.parser,
      c.in-None.ensures.put others inside,
      names-next _ _ c.next_name.result next.passed next.next next.member next.onward next.shorter next.free next.lacks next.tells,
    )
