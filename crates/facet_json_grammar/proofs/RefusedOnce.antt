-- An input is refused in one way.
use Rattle.facet_json_token.specs.TokenList.{tokens}
use Rattle.facet_json_grammar.specs.Refusal.{IsStuck}
use Rattle.facet_json_grammar.proofs.StuckOnce.{stuck-once}
use Rattle.facet_json_grammar.specs.EventLaws.{RefusedInOneWay}
use Rattle.facet_json_grammar.proofs.LongestPrefix.{longest-once}
use Rattle.facet_json_grammar.proofs.RefusedHasNone.{refused-comes}

-- The longest prefix is one, and so is the refusal after it.
pub refused_in_one_way : RefusedInOneWay
refused_in_one_way buffer mode r s first second =
    let a = first.after in
    let b = second.after in
    let same =
    longest-once buffer (tokens buffer mode) second.events first.events b.here a.here b.rest a.rest b.prefix.begun (refused-comes b)
    a.prefix in
    let there : IsStuck buffer b.here b.rest r = rw (same.1, same.2) at a.stuck in
    stuck-once buffer b.here b.rest r s there b.stuck
