-- Another first byte begins no end.
use Rattle.facet_format.specs.Event.{sequence_end}
use Rattle.facet_json_core.specs.Meaning.ListSteps.{ends_list}
use Rattle.facet_json_core.proofs.Meaning.Walks.LookAhead.{never-stays, end-alone}
use Rattle.facet_json_core.proofs.steps.lists.take_end.Goals as goal

pub returns-then-comes_other-clause-stays : goal.returns-then-comes_other-clause-stays
returns-then-comes_other-clause-stays c is =
    never-stays ends_list c.args.parser.now sequence_end end-alone (c.comes_other.ensures c.if-comes_other.true)
