-- Another first byte begins no null.
use Rattle.facet_format.specs.Event.{scalar, null}
use Rattle.facet_json_core.specs.Meaning.Optional.{is_null_event}
use Rattle.facet_json_core.proofs.Meaning.Walks.LookAhead.{never-stays, null-alone}
use Rattle.facet_json_core.proofs.steps.next.take_null.Goals as goal

pub returns-then-comes_other-clause-stays : goal.returns-then-comes_other-clause-stays
returns-then-comes_other-clause-stays c is =
    never-stays is_null_event c.args.parser.now (scalar null) null-alone (c.comes_other.ensures c.if-comes_other.true)
