-- What is read from the start of a strict parser to its end is read of the whole input.
use Rattle.std.proofs.Common.{cond}
use Rattle.std.proofs.lemmas.Result.{err_from_is_err_and}
use Rattle.facet_format.specs.Views.{refusal_of}
use Rattle.facet_json_facet.proofs.FirstRead.{strictly-refused}
use Rattle.facet_json_facet.proofs.StrictRootComes.{read-strictly, unread-strictly, left-unread_strictly, one_run-from}
use Rattle.facet_json_core.proofs.Meaning.Keeping.{keeps-then}
use Rattle.facet_json_core.proofs.Meaning.Refusals.{keeps-there}
use Rattle.facet_json_core.proofs.Refusing.{tells-later}
use Rattle.facet_json_core.proofs.Meaning.Walks.NextOnWalk.{goes-keeps}
use Rattle.facet_json_facet.proofs.strict.whole_value.Goals as goal

pub returns-in_err-value-clause-value : goal.returns-in_err-value-clause-value
returns-in_err-value-clause-value g c input is =
    let reading = cond c.args.borrows g.T.Facet.shape.reading_borrowed g.T.Facet.shape.reading in
    let p = err_from_is_err_and c.from_residual.result c.from_residual.ensures.1 in
    let e = c.in_err-value.ensures in
    let unread = unread-strictly reading input c.args.parser.now is (refusal_of c.in_err-value.field-0.0) e.unread in
    rw (p.1, p.2) (strictly-refused _ _ _ _ _ c.value_in.ensures.keeps input is c.in_err-value.field-0.0 unread e.within e.tells)

pub returns-in_err-pass_end-clause-value : goal.returns-in_err-pass_end-clause-value
returns-in_err-pass_end-clause-value g c input is =
    let reading = cond c.args.borrows g.T.Facet.shape.reading_borrowed g.T.Facet.shape.reading in
    let p = err_from_is_err_and c.from_residual-in_err-pass_end.result c.from_residual-in_err-pass_end.ensures.1 in
    let keeps = c.value_in.ensures.keeps in
    let all = keeps-then _ _ _ keeps (goes-keeps _ _ c.pass_end.ensures.onward) in
    let e = c.in_err-pass_end.ensures in
    let unread = left-unread_strictly reading input c.args.parser.now is (g.T.Facet.view c.in_ok-value.value) c.value_in.new.parser
    c.in_ok-value.ensures.read e.only (refusal_of c.in_err-pass_end.field-0.0) in
    rw (p.1, p.2) (strictly-refused _ _ _ _ _ all input is c.in_err-pass_end.field-0.0 unread e.within (tells-later (keeps-there keeps) e.tells))

pub returns-clause-value : goal.returns-clause-value
returns-clause-value g c input is =
    let reading = cond c.args.borrows g.T.Facet.shape.reading_borrowed g.T.Facet.shape.reading in
    let over = c.in_ok-pass_end.ensures.over.over in
    record {
      read = read-strictly reading input c.args.parser.now is (g.T.Facet.view c.in_ok-value.value) c.value_in.new.parser c.in_ok-value.ensures.read;
      unread = tt;
      document = λ whole. c.in_ok-value.ensures.strict whole input is over;
      one_run = one_run-from input c.args.parser.now is c.value_in.new.parser c.value_in.ensures.keeps over;
      within = tt;
      tells = tt;
    }
