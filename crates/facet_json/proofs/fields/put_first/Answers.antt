use Rattle.std.specs.Option.{option_map}
use Rattle.std.proofs.Common.{cond, sym, ◌∙◌}
use Rattle.std.proofs.lemmas.Result.{IfErr-weaker, err_from_is_err_and, on_ok_weaker}
use Rattle.facet_format.specs.Views.{refusal_of}
use Rattle.facet_json.specs.Fields.{keys}
use Rattle.facet_json.proofs.FieldCells.{first-read, first-unread, others-read, others-unread}
use Rattle.facet_json.proofs.fields.put_first.Goals as goal

pub returns-in_err-value_in-clause-unread : goal.returns-in_err-value_in-clause-unread
returns-in_err-value_in-clause-unread g c =
    let p = err_from_is_err_and c.from_residual.result c.from_residual.ensures.1 in
    rw (p.1, p.2) (first-unread (cond c.args.borrows g.T.Facet.shape.reading_borrowed g.T.Facet.shape.reading) (g.R.Fields.step c.args.borrows) (keys c.args.names.now) c.args.key.now (option_map g.T.Facet.view c.args.slots.now.0, g.R.Fields.seen c.args.slots.now.1) c.args.parser.now (refusal_of c.in_err-value_in.field-0.0) (sym c.is_first.ensures ∙ c.if-is_first.true) c.in_err-value_in.ensures.unread)

pub returns-then-is_first-clause-read : goal.returns-then-is_first-clause-read
returns-then-is_first-clause-read g c =
    first-read (cond c.args.borrows g.T.Facet.shape.reading_borrowed g.T.Facet.shape.reading) (g.R.Fields.step c.args.borrows) (keys c.args.names.now) c.args.key.now (option_map g.T.Facet.view c.args.slots.now.0, g.R.Fields.seen c.args.slots.now.1) c.args.parser.now c.value_in.new.parser _ (sym c.is_first.ensures ∙ c.if-is_first.true) c.in_ok-value_in.ensures.read

pub returns-clause-read : goal.returns-clause-read
returns-clause-read g c =
    let read = rw c.after_first.ensures at c.put.ensures.read in
    on_ok_weaker c.put.result (λ h. others-read (cond c.args.borrows g.T.Facet.shape.reading_borrowed g.T.Facet.shape.reading) (g.R.Fields.step c.args.borrows) (keys c.args.names.now) c.args.key.now (option_map g.T.Facet.view c.args.slots.now.0, g.R.Fields.seen c.args.slots.now.1) c.args.parser.now c.put.new.parser _ (sym c.is_first.ensures ∙ c.if-is_first.false) h) read

pub returns-clause-unread : goal.returns-clause-unread
returns-clause-unread g c =
    let unread = rw c.after_first.ensures at c.put.ensures.unread in
    IfErr-weaker c.put.result _ _ (λ e h. others-unread (cond c.args.borrows g.T.Facet.shape.reading_borrowed g.T.Facet.shape.reading) (g.R.Fields.step c.args.borrows) (keys c.args.names.now) c.args.key.now (option_map g.T.Facet.view c.args.slots.now.0, g.R.Fields.seen c.args.slots.now.1) c.args.parser.now (refusal_of e) (sym c.is_first.ensures ∙ c.if-is_first.false) h) unread

pub returns-then-is_first-clause-owned : goal.returns-then-is_first-clause-owned
returns-then-is_first-clause-owned g c kept before = (c.in_ok-value_in.ensures.owned kept, before.1)

pub returns-clause-owned : goal.returns-clause-owned
returns-clause-owned g c kept before = on_ok_weaker c.put.result (λ others. (before.0, others)) (c.put.ensures.owned kept before.1)
