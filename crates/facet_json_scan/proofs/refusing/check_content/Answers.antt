-- The error is passed on as the fault is.
use Rattle.std.proofs.Common.{slice_range, sym, subst}
use Rattle.facet_json_token.specs.DecodeViews.{IsFirstRefusal}
use Rattle.facet_json_token.proofs.FaultErrors.{says-refusal}
use Rattle.facet_json_scan.proofs.refusing.check_content.Goals as goal

pub returns-in-Err-clause-refused : goal.returns-in-Err-clause-refused
returns-in-Err-clause-refused c =
    let content = slice_range c.args.buf.now c.args.start c.args.end in
    subst (IsFirstRefusal content c.args.start) (sym (says-refusal c.in-Err.fault c.from.result c.from.ensures)) c.in-Err.ensures.refused
