use Rattle.std.proofs.Common.{cond}
use Rattle.std.proofs.lemmas.Result.{err_from_is_err_and}
use Rattle.facet_format.specs.Views.{refusal_of}
use Rattle.facet_json_core.specs.Meaning.Optional.{optional}
use Rattle.facet_json_core.proofs.Meaning.Leaves.LeafReadings.{none-unread}
use Rattle.facet_json_core.proofs.Meaning.Nullable.OptionalReadings.{null-read, value-read, value-unread}
use Rattle.facet_json_core.proofs.Refusing.{goes-there, tells-later}
use Rattle.facet_json_core.proofs.Meaning.OneValue.WithinValues.{value-stays}
use Rattle.facet_json_facet.proofs.options.optional_in.Goals as goal

pub returns-in_err-take_null-clause-unread : goal.returns-in_err-take_null-clause-unread
returns-in_err-take_null-clause-unread g c =
    let p = err_from_is_err_and c.from_residual.result c.from_residual.ensures.1 in
    rw (p.1, p.2) (none-unread (optional (cond c.args.borrows g.T.Facet.shape.reading_borrowed g.T.Facet.shape.reading)) _ _ c.in_err-take_null.ensures.lacks)

pub returns-then-branch-clause-read : goal.returns-then-branch-clause-read
returns-then-branch-clause-read g c =
    let taken = c.in_ok-take_null.ensures.taken c.if-branch.true in
    null-read (cond c.args.borrows g.T.Facet.shape.reading_borrowed g.T.Facet.shape.reading) _ _ taken.takes

pub returns-in_err-value_in-clause-unread : goal.returns-in_err-value_in-clause-unread
returns-in_err-value_in-clause-unread g c =
    let p = err_from_is_err_and c.from_residual-in_err-value_in.result c.from_residual-in_err-value_in.ensures.1 in
    let stays = c.in_ok-take_null.ensures.stays c.if-branch.false in
    rw (p.1, p.2) (value-unread (cond c.args.borrows g.T.Facet.shape.reading_borrowed g.T.Facet.shape.reading) _ _ (refusal_of c.in_err-value_in.field-0.0) stays c.in_err-value_in.ensures.unread)

pub returns-clause-read : goal.returns-clause-read
returns-clause-read g c =
    let stays = c.in_ok-take_null.ensures.stays c.if-branch.false in
    value-read (cond c.args.borrows g.T.Facet.shape.reading_borrowed g.T.Facet.shape.reading) _ _ _ _ stays c.in_ok-value_in.ensures.read

pub returns-in_err-value_in-clause-tells : goal.returns-in_err-value_in-clause-tells
returns-in_err-value_in-clause-tells g c =
    let p = err_from_is_err_and c.from_residual-in_err-value_in.result c.from_residual-in_err-value_in.ensures.1 in
    rw (p.1, p.2) (tells-later (goes-there c.take_null.ensures.onward) c.in_err-value_in.ensures.tells)

pub returns-then-branch-clause-one_value : goal.returns-then-branch-clause-one_value
returns-then-branch-clause-one_value g c = (c.in_ok-take_null.ensures.taken c.if-branch.true).value

pub returns-clause-one_value : goal.returns-clause-one_value
returns-clause-one_value g c =
    value-stays _ _ _ c.take_null.ensures.onward.input (c.in_ok-take_null.ensures.stays c.if-branch.false).there c.in_ok-value_in.ensures.one_value
