use Rattle.std.proofs.Common.{arith}
use Rattle.std.proofs.lemmas.Result.{err_from_is_err_and}
use Rattle.facet_json_core.specs.Meaning.Taking.{is_sought}
use Rattle.facet_json_core.proofs.Meaning.OneValue.WithinValues.{next-is}
use Rattle.facet_json_core.proofs.Meaning.Walks.LookAhead.{finds-lacks, finds-stays, finds-takes}
use Rattle.facet_json_core.proofs.Refusing.{goes-there, tells-later}
use Rattle.facet_json_core.proofs.TakenNext.{sought-passed}
use Rattle.facet_json_core.proofs.steps.ahead.take_out_of_line.Goals as goal

pub returns-in_err-_passed-clause-lacks : goal.returns-in_err-_passed-clause-lacks
returns-in_err-_passed-clause-lacks c =
    let p = err_from_is_err_and c.from_residual-in_err-_passed.result c.from_residual-in_err-_passed.ensures.1 in
    rw (p.1, p.2) (finds-lacks (is_sought c.args.sought) _ _ _ _ c.in_ok-comes.ensures.finds c.in_err-_passed.ensures.lacks)

pub returns-in_err-_passed-clause-tells : goal.returns-in_err-_passed-clause-tells
returns-in_err-_passed-clause-tells c =
    let p = err_from_is_err_and c.from_residual-in_err-_passed.result c.from_residual-in_err-_passed.ensures.1 in
    rw (p.1, p.2) (tells-later (goes-there c.comes.ensures.onward) c.in_err-_passed.ensures.tells)

pub returns-then-branch-clause-taken : goal.returns-then-branch-clause-taken
returns-then-branch-clause-taken c is =
    let looks = c.in_ok-comes.ensures.looks in
    let last = c.in_ok-_passed.ensures in
    let sought = next-is (is_sought c.args.sought) _ _ _ (looks.comes c.if-branch.true) last.passed in
    record {
      takes = finds-takes (is_sought c.args.sought) _ _ _ _ _ c.if-branch.true c.in_ok-comes.ensures.finds last.walks;
      value = sought-passed c.args.sought _ _ _ _ sought c.comes.ensures.onward.input looks.there last.by_kind;
      shorter = omega (arith, c.comes.ensures.onward.onward, last.shorter);
      free = last.passed.free;
    }

pub returns-clause-stays : goal.returns-clause-stays
returns-clause-stays c is =
    finds-stays (is_sought c.args.sought) _ _ _ c.if-branch.false c.in_ok-comes.ensures.finds c.in_ok-comes.ensures.looks
