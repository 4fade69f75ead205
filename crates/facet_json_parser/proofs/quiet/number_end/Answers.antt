-- The number is a token.
use Rattle.std.proofs.Common.{sym, ◌∙◌, refl, arith}
use Rattle.std.proofs.lemmas.Option.{slice_get_within}
use Rattle.facet_format.specs.NumberParts.{parts_hint}
use Rattle.facet_json_reader.proofs.TokensThere.{number-cut}
use Rattle.facet_json_parser.proofs.QuietTokens.{token-leads_on}
use Rattle.facet_json_parser.proofs.quiet.number_end.Goals as goal

pub returns-clause-on : goal.returns-clause-on
returns-clause-on c =
    λ mode gap.
    let q = c.parts_at-parts.result in
    let more = sym c.is_bare.ensures ∙ c.if-is_bare.false in
    let room = slice_get_within c.args.input.now c.args.at c.args.first c.requires.here in
    token-leads_on c.args.input.now mode c.args.at c.len.result _ _ gap (omega (arith, room)) refl (λ innermost around s. refl)
    (number-cut mode c.args.input.now c.args.at c.args.first c.len.result q (parts_hint q) c.requires.here c.requires.number c.parts_at-parts.ensures.parts c.len.ensures refl more)
