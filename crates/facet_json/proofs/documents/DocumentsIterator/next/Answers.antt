use Rattle.std.proofs.Common.{◌≡◌, ◌<◌, ◌∙◌, ap, arith, length, subst, sym, true}
use Rattle.facet_format.specs.Views.{refusal_of}
use Rattle.facet_json_token.specs.Cut.{past_gap}
use Rattle.facet_json_token.specs.Gap.{plain}
use Rattle.facet_json_grammar.specs.Language.{lenient}
use Rattle.facet_json_grammar.specs.UnreadLaws.{RefusalWithin}
use Rattle.facet_json.specs.Documents.{Documents, after, moved, nothing, read_up, refused, value}
use Rattle.facet_json_facet.specs.Inputs.{BeginsWithDocument, BeginsWithRunTo, IsReadFrom, IsToldOf, IsUnreadFrom}
use Rattle.facet_json.proofs.documents.DocumentsIterator.next.Goals as goal

pub returns-then-skip_gap-rest-clause-steps : goal.returns-then-skip_gap-rest-clause-steps
returns-then-skip_gap-rest-clause-steps g c =
    nothing (subst (λ left. past_gap left 0 plain ≡ length left) c.rest-rest.ensures (sym c.skip_gap.ensures.end ∙ c.if-skip_gap-rest.true))
    (ap read_up c.self.view_is)

pub returns-in-Ok-clause-steps : goal.returns-in-Ok-clause-steps
returns-in-Ok-clause-steps g c =
    let here = c.rest-rest.ensures in
    value c.in-Ok.value c.in-Ok.end (subst (λ left. BeginsWithRunTo left plain c.in-Ok.end) here c.in-Ok.ensures.end)
    (subst (λ left. IsReadFrom g.T.Facet.shape.reading left plain (g.T.Facet.view c.in-Ok.value)) here c.in-Ok.ensures.value.read) c.in-Ok.ensures.owned
    (λ (is : g.T.Facet.whole ≡ true). subst (λ left. BeginsWithDocument left plain) here (c.in-Ok.ensures.value.document is))
    (ap (λ d. after d c.in-Ok.end) c.self.view_is)

pub returns-in-Err-clause-steps : goal.returns-in-Err-clause-steps
returns-in-Err-clause-steps g c =
    let here = c.rest-rest.ensures in
    let r = refusal_of c.in-Err.error in
    let more : past_gap c.rest-rest.result.now 0 plain < length c.rest-rest.result.now =
    omega (arith, c.skip_gap.ensures.end, c.skip_gap.ensures.within, c.if-skip_gap-rest.false) in
    refused c.moved.result r (subst (λ left. past_gap left 0 plain < length left) here more)
    (c.moved.ensures ∙ ap (λ (d : Documents). moved d.at r) c.self.view_is)
    (subst (λ left. IsUnreadFrom g.T.Facet.shape.reading left plain r) here c.in-Err.ensures.value.unread)
    (subst (λ left. RefusalWithin left r) here c.in-Err.ensures.value.within)
    (subst (λ left. IsToldOf left (lenient plain) r) here c.in-Err.ensures.value.tells) (ap read_up c.self.view_is)
