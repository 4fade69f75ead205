-- Null is no value, and another scalar is one.
use Rattle.facet_json_facet.proofs.SeenScalars.{null-seen, value-seen}
use Rattle.facet_json_facet.proofs.options.OptionFacet.in_sight.Goals as goal

pub returns-then-begins_null-clause-seen : goal.returns-then-begins_null-clause-seen
returns-then-begins_null-clause-seen g c =
    null-seen c.args.input.now c.args.at c.in_ok-null_at.field-0 c.args.borrows g.T.Facet.shape.reading_borrowed g.T.Facet.shape.reading c.in_ok-null_at.ensures

pub returns-clause-seen : goal.returns-clause-seen
returns-clause-seen g c =
    value-seen c.args.input.now c.args.at c.in_ok-value.len c.args.borrows g.T.Facet.shape.reading_borrowed g.T.Facet.shape.reading
    (g.T.Facet.view c.in_ok-value.value) (c.begins_null.ensures c.if-begins_null.false c.in_ok-value.len) c.in_ok-value.ensures.seen
