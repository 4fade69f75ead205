-- What stands behind a document is refused there.
use Rattle.std.proofs.Common.{◌∙◌, ◌≡◌, ◌≤◌, ℕ, List, [], length, refl, sym, ap, subst, arith}
use Rattle.std.specs.Prelude.{Ok, Err}
use Rattle.facet_format.specs.Complaint.{Refusal}
use Rattle.facet_format.specs.Event.{ContainerKind}
use Rattle.facet_format.specs.declared.event.Span.{Span as RustSpan}
use Rattle.facet_json_token.specs.Gap.{Mode}
use Rattle.facet_json_token.specs.TokenList.{tokens_from}
use Rattle.facet_json_grammar.specs.Language.{lenient}
use Rattle.facet_json_reader.specs.PlaceViews.{refused_of}
use Rattle.facet_json_reader.specs.Views.{IsUpcoming}
use Rattle.facet_json_reader.specs.declared.reader.Reader.{Reader as RustReader}
use Rattle.facet_json_reader.specs.declared.reader.Stage.TheVariants as stages
use Rattle.facet_json_reader.specs.declared.place.Place.TheVariants as places
use Rattle.facet_json_reader.specs.declared.refusal.Refused.{Refused}
use Rattle.facet_format.specs.Span.{stop}
use Rattle.facet_format.specs.Views.{refusal_of, span_of}
use Rattle.facet_json_token.specs.Cut.{past_gap}
use Rattle.facet_json_token.specs.Views.{mode_of}
use Rattle.facet_json_document.specs.Inner.Checking.{IsStuckBehind}
use Rattle.facet_json_document.proofs.TokensBehind.{gap-ends, gap-more, stuck-within, upcoming-refuses, upcoming-refused}
use Rattle.facet_json_document.proofs.checking.pass_behind.Goals as goal

pub returns-then-skip_gap-text-clause-done : goal.returns-then-skip_gap-text-clause-done
returns-then-skip_gap-text-clause-done c =
    let text = c.args.text.now in
    let mode = mode_of c.args.mode in
    let at : c.end.result ≡ stop (span_of c.args.last) = c.end.ensures.fits (omega (arith, c.requires.inside)) in
    gap-ends text mode (stop (span_of c.args.last)) c.skip_gap.result (c.skip_gap.ensures.end ∙ ap (λ n. past_gap text n mode) at) c.if-skip_gap-text.true

pub returns-in-Ok-clause-done : goal.returns-in-Ok-clause-done
returns-in-Ok-clause-done c =
    let behind : RustReader = record { last = c.args.last; contexts = c.new.result; stage = stages.Within places.AfterRoot } in
    absurd (upcoming-refuses c.args.text.now (mode_of c.args.mode) (span_of c.args.last) c.requires.inside behind c.new.ensures refl refl c.in-Ok.field-0
    (subst (λ language. IsUpcoming c.args.text.now language behind (Ok c.in-Ok.field-0)) c.from-language.ensures c.in-Ok.ensures))

-- It is refused as the reader refuses it.
told : (text : List ℕ) (mode : Mode) (last : RustSpan) (inside : stop (span_of last) ≤ length text) (contexts : List ContainerKind) (none : contexts ≡ [])
    (to : ℕ) (at : ℕ) → at ≡ stop (span_of last) → to ≡ past_gap text at mode → to ≤ length text → (to ≡ length text → ⊥) → (e : Refused) →
    IsUpcoming text (lenient mode) (record { last = last; contexts = contexts; stage = stages.Within places.AfterRoot }) (Err e) →
    (r : Refusal) → r ≡ refused_of e → IsStuckBehind text (tokens_from text mode (stop (span_of last))) r
told text mode last inside contexts none to at there is w more e was r same =
    let some = gap-more text mode (stop (span_of last)) to (is ∙ ap (λ n. past_gap text n mode) there) w more in
    subst (IsStuckBehind text (tokens_from text mode (stop (span_of last)))) (sym same)
    (upcoming-refused text mode (span_of last) inside (record { last = last; contexts = contexts; stage = stages.Within places.AfterRoot }) none refl refl e was some)

pub returns-clause-refused : goal.returns-clause-refused
returns-clause-refused c =
    let behind : RustReader = record { last = c.args.last; contexts = c.new.result; stage = stages.Within places.AfterRoot } in
    told c.args.text.now (mode_of c.args.mode) c.args.last c.requires.inside c.new.result c.new.ensures c.skip_gap.result c.end.result
    (c.end.ensures.fits (omega (arith, c.requires.inside))) c.skip_gap.ensures.end c.skip_gap.ensures.within c.if-skip_gap-text.false c.in-Err.refused
    (subst (λ language. IsUpcoming c.args.text.now language behind (Err c.in-Err.refused)) c.from-language.ensures c.in-Err.ensures)
    (refusal_of c.from-in-Err.result) (ap refusal_of c.from-in-Err.ensures ∙ c.from.ensures)

pub returns-clause-within : goal.returns-clause-within
returns-clause-within c =
    let behind = returns-clause-refused c in
    stuck-within c.args.text.now (mode_of c.args.mode) (span_of c.args.last) c.requires.inside (refusal_of c.from-in-Err.result) behind.so
