-- The scalar is the first field's, or goes to one of those after it.
use Rattle.std.specs.Option.{option_map}
use Rattle.std.proofs.Common.{cond, sym, ◌∙◌}
use Rattle.std.proofs.lemmas.Option.{IfSome_then}
use Rattle.facet_json.specs.Fields.{keys}
use Rattle.facet_json.proofs.FieldCells.{first-seen, others-seen}
use Rattle.facet_json.proofs.fields.put_first_in_sight.Goals as goal

pub returns-then-is_first-clause-put : goal.returns-then-is_first-clause-put
returns-then-is_first-clause-put g c =
    first-seen (cond c.args.borrows g.T.Facet.shape.reading_borrowed g.T.Facet.shape.reading) (g.R.Fields.step c.args.borrows) (keys c.args.names.now)
    c.args.key.now (option_map g.T.Facet.view c.args.slots.now.0, g.R.Fields.seen c.args.slots.now.1) c.args.input.now c.args.at c.in_ok-value.len
    (g.T.Facet.view c.in_ok-value.value) (sym c.is_first.ensures ∙ c.if-is_first.true) c.in_ok-value.ensures.seen

pub returns-clause-put : goal.returns-clause-put
returns-clause-put g c =
    let put = rw c.after_first.ensures at c.put_in_sight.ensures.put in
    IfSome_then c.put_in_sight.result put
    (λ len is. others-seen (cond c.args.borrows g.T.Facet.shape.reading_borrowed g.T.Facet.shape.reading) (g.R.Fields.step c.args.borrows)
    (keys c.args.names.now) c.args.key.now (option_map g.T.Facet.view c.args.slots.now.0, g.R.Fields.seen c.args.slots.now.1) c.args.input.now c.args.at len
    _ (sym c.is_first.ensures ∙ c.if-is_first.false) is)
