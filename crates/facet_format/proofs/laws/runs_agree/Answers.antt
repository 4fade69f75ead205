use Rattle.std.proofs.Common.{sym, ◌∙◌}
use Rattle.facet_format.proofs.CursorAgrees as agree
use Rattle.facet_format.specs.Cursor.{on_walk}
use Rattle.facet_format.proofs.laws.runs_agree.Goals as goal

pub returns : goal.returns
returns c = λ w. agree.runs-agree (on_walk w) (λ place r q refused other. absurd refused)
    (λ place a b first second. first ∙ sym second)
