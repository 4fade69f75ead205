-- The key's text and its colon give its event.
use Rattle.std.proofs.Common.{◌+◌, ◌-◌, false, slice_range, sym, subst}
use Rattle.facet_format.specs.Span.{span_at}
use Rattle.facet_json_token.specs.Gap.{plain}
use Rattle.facet_json_grammar.specs.Language.{lenient}
use Rattle.facet_json_reader.specs.Inner.InSight.{PassesKeyAt}
use Rattle.facet_json_reader.specs.PlaceViews.{least_of}
use Rattle.facet_json_reader.proofs.AllowedTexts.{unescaped-allowed}
use Rattle.facet_json_reader.proofs.Fronts.{key-at}
use Rattle.facet_json_reader.proofs.TakenPieces.{closed-text}
use Rattle.facet_json_reader.proofs.in_sight.Front.key.Goals as goal

pub returns-clause-over : goal.returns-clause-over
returns-clause-over c =
    λ stack reached.
    let buffer = c.args.input.now in
    let language = lenient plain in
    let from = c.args.self in
    let closed = c.in_ok-end.ensures.0 in
    let utf8 = c.in_ok-end.ensures.1 in
    let end = c.in_ok-end.end in
    let to = c.after_colon.ensures in
    subst (λ name. PassesKeyAt buffer language stack from name c.after_colon.result) (sym c.plain_text_unchecked-name.ensures.borrowed) (
      _,
      key-at buffer language stack from c.after_colon.result end c.past_empty-colon.result (slice_range buffer (from.at + 1) end)
          (c.is_key.ensures c.if-not-is_key.false (from.at + 1) end)
          (unescaped-allowed language buffer (from.at + 1) end closed.unescaped (span_at from.at ((end + 1) - from.at)) false) reached (closed-text (least_of language) buffer from.at end closed utf8)
          closed.ordered closed.within c.past_empty-colon.ensures.end (c.is_there-2.ensures c.if-not-is_there-2.false) to.last to.stage (to.front stack),
    )
