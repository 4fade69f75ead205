-- Some events were consumed, and the front is before the next token.
use Rattle.std.proofs.Common.{◌-◌, length}
use Rattle.facet_json_reader.specs.Inner.InSight.{reader_at, IsFront, PassesSeveral}
use Rattle.facet_json_reader.proofs.in_sight.pass_all.Given as goal

abbrev pub invariant-loop-next : goal.invariant-loop-next
invariant-loop-next g l =
    IsFront l.input g.L.InLanguage.language l.fn.contexts l.fn.from →
    PassesSeveral (g.T.Takes.takes l.input) l.input g.L.InLanguage.language (reader_at l.fn.contexts l.fn.from) l.fn.takes
    (reader_at l.contexts l.front) l.takes
    × IsFront l.input g.L.InLanguage.language l.contexts l.front

abbrev pub decreases-loop-next : goal.decreases-loop-next
decreases-loop-next g l = length l.input - l.front.at
