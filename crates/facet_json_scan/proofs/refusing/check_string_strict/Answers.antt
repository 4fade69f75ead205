-- The error answers what the fault answers.
use Rattle.std.proofs.Common.{slice_range, sym, subst}
use Rattle.facet_json_token.specs.StrictViews.{IsWrong}
use Rattle.facet_json_token.proofs.FaultErrors.{says-cut}
use Rattle.facet_json_scan.proofs.refusing.check_string_strict.Goals as goal

pub returns-in-Err : goal.returns-in-Err
returns-in-Err c =
    let content = slice_range c.args.buf.now c.args.start c.args.end in
    subst (IsWrong content c.args.start) (sym (says-cut c.in-Err.fault c.from.result c.from.ensures)) c.in-Err.ensures
