use Rattle.std.proofs.Common.{refl, sym, ap, ◌∙◌}
use Rattle.facet_json_document.specs.Nodes.{items}
use Rattle.facet_json_document.proofs.NodesSeen.{nodes-left}
use Rattle.facet_json_document.proofs.document.held.ItemsIterator.next.Goals as goal

pub returns-in_err-next-clause-steps : goal.returns-in_err-next-clause-steps
returns-in_err-next-clause-steps c =
    let s = c.args.self.now in
    let none = ap (items 0) (nodes-left s.document.now c.at-here.result.document.now s.at s.at (sym c.at-here.ensures.same) refl) ∙ c.in_err-next.ensures in
    rw c.from_residual.ensures (none, none)
