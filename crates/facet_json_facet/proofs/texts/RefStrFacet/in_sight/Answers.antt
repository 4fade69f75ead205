-- The text that stands there is lent.
use Rattle.std.proofs.lemmas.Option.{IfSome_then}
use Rattle.facet_json_facet.proofs.SeenScalars.{lent-seen}
use Rattle.facet_json_facet.proofs.texts.RefStrFacet.in_sight.Goals as goal

pub returns-then-borrows-clause-seen : goal.returns-then-borrows-clause-seen
returns-then-borrows-clause-seen c =
    rw c.if-borrows.true (IfSome_then c.text_at.result c.text_at.ensures (λ r is. lent-seen c.args.input.now c.args.at r.1 r.0.now is))
