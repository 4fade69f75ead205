-- A token leads on, and so does what stands right behind it.
use Rattle.std.proofs.Common.{arith}
use Rattle.facet_json_token.specs.Gap.{plain}
use Rattle.facet_json_parser.proofs.QuietTokens.{leads_on-twice}
use Rattle.facet_json_parser.proofs.quiet.quiet_end.Goals as goal

pub returns-clause-on : goal.returns-clause-on
returns-clause-on c =
    λ mode gap. leads_on-twice c.args.input.now mode c.args.at c.in_ok-end.end _ (c.in_ok-end.ensures.on mode gap) (c.past_separator.ensures mode)

pub returns-clause-past : goal.returns-clause-past
returns-clause-past c =
    let on = c.past_separator.ensures plain in
    let past = c.in_ok-end.ensures.past in
    (omega (arith, past, on.past), on.ends)
