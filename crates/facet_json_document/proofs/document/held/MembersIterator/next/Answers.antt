use Rattle.std.proofs.Common.{◌+◌, ◌∷◌, refl, sym, ap, ◌∙◌, arith}
use Rattle.facet_json_document.specs.Nodes.{members, nodes_from}
use Rattle.facet_json_document.proofs.NodesSeen.{member-left, nodes-left}
use Rattle.facet_json_document.proofs.document.held.MembersIterator.next.Goals as goal

pub returns-in_err-name-clause-steps : goal.returns-in_err-name-clause-steps
returns-in_err-name-clause-steps c =
    let s = c.args.self.now in
    let none = ap (members 0) (nodes-left s.document.now c.at-here.result.document.now s.at s.at (sym c.at-here.ensures.same) refl) ∙ c.in_err-name.ensures in
    rw c.from_residual.ensures (none, none)

pub returns-clause-steps : goal.returns-clause-steps
returns-clause-steps c =
    let s = c.args.self.now in
    let v = c.at-here.result in
    let w = c.at-value.result in
    let m = c.in_ok-name.ensures in
    ap (members 0) (nodes-left s.document.now v.document.now s.at s.at (sym c.at-here.ensures.same) refl)
    ∙ member-left v w s.at _ (s.at + 1) _ m (c.at-value.ensures.same ∙ sym c.at-here.ensures.same) c.at-value.ensures.index (omega arith)
    ∙ ap (λ l. (c.in_ok-name.name.now, nodes_from w) ∷ members 0 l) (nodes-left v.document.now s.document.now c.in_ok-name.next c.in_ok-name.next c.at-here.ensures.same refl)
