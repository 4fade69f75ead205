-- A comma or a colon is a token where it stands.
use Rattle.std.proofs.Common.{refl}
use Rattle.facet_json_token.specs.Token.{comma, colon}
use Rattle.facet_json_token.specs.Shape.{comma_stands, colon_stands}
use Rattle.facet_json_parser.proofs.QuietTokens.{read-leads_on, leads_on-nowhere}
use Rattle.facet_json_parser.proofs.quiet.past_separator.Goals as goal

pub returns-in-Some-eq44 : goal.returns-in-Some-eq44
returns-in-Some-eq44 c =
    λ mode.
    let w = c.in-Some-eq44 in
    read-leads_on c.args.input.now mode c.args.at 44 w.field-0.now comma comma_stands w.ensures.lookup.3 w.field-0-test (λ innermost around s. refl)

pub returns-in-Some-eq58 : goal.returns-in-Some-eq58
returns-in-Some-eq58 c =
    λ mode.
    let w = c.in-Some-eq58 in
    read-leads_on c.args.input.now mode c.args.at 58 w.field-0.now colon colon_stands w.ensures.lookup.3 w.field-0-test (λ innermost around s. refl)

pub returns-in_default : goal.returns-in_default
returns-in_default c = λ mode. leads_on-nowhere c.args.input.now mode c.args.at c.requires
