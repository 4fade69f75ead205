-- What stands there is a token that opens and closes nothing.
use Rattle.std.proofs.Common.{refl, arith}
use Rattle.facet_json_token.specs.Shape.{comma_stands, colon_stands}
use Rattle.facet_json_token.specs.Token.{comma, colon}
use Rattle.facet_json_token.proofs.FirstBytes.{start_of-number_range}
use Rattle.facet_json_parser.proofs.QuietTokens.{token-leads_on, read-leads_on}
use Rattle.facet_json_parser.proofs.quiet.token_end.Goals as goal

pub returns-in_ok-plain_text_end-in-34-clause-on : goal.returns-in_ok-plain_text_end-in-34-clause-on
returns-in_ok-plain_text_end-in-34-clause-on c =
    λ mode gap.
    let text = c.in_ok-plain_text_end-in-34 in
    let within = text.ensures.within in
    token-leads_on c.args.input.now mode c.args.at _ _ _ gap (omega (arith, within)) (omega (arith, within)) (λ innermost around s. refl) (text.ensures.token mode)

pub number_end-requires-clause-number : goal.number_end-requires-clause-number
number_end-requires-clause-number c = start_of-number_range c.in_ok-first.field-0.now (grind arith) (grind arith) (grind arith) (grind arith)

pub returns-in-44-clause-on : goal.returns-in-44-clause-on
returns-in-44-clause-on c =
    λ mode gap.
    read-leads_on c.args.input.now mode c.args.at 44 c.in_ok-first.field-0.now comma comma_stands c.in_ok-first.ensures.lookup.3 c.in-44.is (λ innermost around s. refl)

pub returns-in-58-clause-on : goal.returns-in-58-clause-on
returns-in-58-clause-on c =
    λ mode gap.
    read-leads_on c.args.input.now mode c.args.at 58 c.in_ok-first.field-0.now colon colon_stands c.in_ok-first.ensures.lookup.3 c.in-58.is (λ innermost around s. refl)
