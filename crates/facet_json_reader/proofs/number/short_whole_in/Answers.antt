-- A number of RFC 8259 is allowed in each language.
use Rattle.std.proofs.Common.{◌+◌}
use Rattle.facet_json_grammar.specs.Language.{strict}
use Rattle.facet_json_token.specs.Gap.{plain}
use Rattle.facet_json_reader.specs.Inner.Whole.{whole_scalar}
use Rattle.facet_json_reader.proofs.AllowedTexts.{rfc_number-allowed}
use Rattle.facet_json_reader.proofs.QuickEvents.{number-kind}
use Rattle.facet_json_reader.proofs.number.short_whole_in.Goals as goal

pub returns-then-leads_by_no_zero : goal.returns-then-leads_by_no_zero
returns-then-leads_by_no_zero c =
    let input = c.args.input.now in
    let at = c.args.at in
    let n = c.in_ok-len in
    let kind = number-kind input at n.len c.args.first (whole_scalar n.whole) n.ensures.there c.requires.here c.requires.number in
    let is = kind.1 in
    let rfc = c.leads_by_no_zero.ensures c.if-leads_by_no_zero.true in
    rw c.in-Strict.is (n.ensures.there, rw is (rfc_number-allowed (strict plain) input at (at + n.len) kind.0 _ rfc))
