use Rattle.std.proofs.Common.{◌≡◌, IfSome, IfNone, subst}
use Rattle.facet_json_token.specs.Views.{mode_of}
use Rattle.facet_json_scan.specs.Listed.{AreTokensOf}
use Rattle.facet_json_command.proofs.Endings.{no_growth}
use Rattle.facet_json_command.proofs.TokenListing.{unread_tokens, tokens_end, tokens_end_grows, tokens_not_usage}
use Rattle.facet_json_command.proofs.run.print_tokens.Goals as goal

pub returns-in-Ok-clause-ends : goal.returns-in-Ok-clause-ends
returns-in-Ok-clause-ends g c =
    tokens_not_usage (mode_of c.args.mode) c.in-Ok.scanned _ _ _ _ _ c.in-Ok.ensures.so_far c.write_scanned-written.ensures.listed c.finish.ensures.ends

pub returns-in-Ok-clause-listed : goal.returns-in-Ok-clause-listed
returns-in-Ok-clause-listed g c =
    let s = c.in-Ok.scanned in
    let scanned = subst (λ left. IfSome left (λ input. AreTokensOf input (mode_of c.args.mode) s)) c.new-input.ensures.left c.in-Ok.ensures.scanned in
    let whole = subst (λ left. IfNone s.refusal (IfSome left (λ input. s.buf.items ≡ input))) c.new-input.ensures.left c.in-Ok.ensures.whole in
    tokens_end (mode_of c.args.mode) _ s _ _ _ _ _ scanned whole c.write_scanned-written.ensures.listed c.finish.ensures.ends

pub returns-in-Ok-clause-grows : goal.returns-in-Ok-clause-grows
returns-in-Ok-clause-grows g c =
    tokens_end_grows (mode_of c.args.mode) c.in-Ok.scanned _ _ _ _ _ c.in-Ok.ensures.so_far c.write_scanned-written.ensures.listed c.finish.ensures.ends

pub returns-in-Err-clause-listed : goal.returns-in-Err-clause-listed
returns-in-Err-clause-listed g c = unread_tokens _ _ _ _ c.in-Err.ensures.fault

pub returns-in-Err-clause-grows : goal.returns-in-Err-clause-grows
returns-in-Err-clause-grows g c other = no_growth _
