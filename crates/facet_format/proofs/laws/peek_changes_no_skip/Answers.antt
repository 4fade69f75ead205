use Rattle.std.proofs.Common.{refl, sym, ◌∙◌}
use Rattle.facet_format.proofs.CursorAgrees as agree
use Rattle.facet_format.specs.Cursor.{on_walk}
use Rattle.facet_format.proofs.laws.peek_changes_no_skip.Goals as goal

pub returns : goal.returns
returns _ = λ w c peeked d e call shown a b by. agree.peek-skip (on_walk w) (λ place x y first second. first ∙ sym second) c peeked d e call shown _ a b by refl
