use Rattle.facet_format.proofs.CursorSteps as steps
use Rattle.facet_format.specs.Cursor.{on_walk}
use Rattle.facet_format.proofs.laws.peek_is_next.Goals as goal

pub returns : goal.returns
returns c = λ w. steps.peek-next (on_walk w)
