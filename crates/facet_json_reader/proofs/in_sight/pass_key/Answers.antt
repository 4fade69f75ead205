-- The key's text and its colon give its event.
use Rattle.std.proofs.Common.{◌≡◌, ℕ, ◌+◌, ◌≤◌, false, length, slice_range, refl, ap₂, arith}
use Rattle.std.proofs.lemmas.Option.{slice_get_within}
use Rattle.facet_format.specs.Bytes.{colon}
use Rattle.facet_format.specs.Span.{Span, stop, span_at}
use Rattle.facet_format.specs.Views.{span_of}
use Rattle.facet_json_grammar.specs.Place.{after_colon}
use Rattle.facet_json_reader.specs.declared.in_sight.Front.{Front}
use Rattle.facet_json_reader.specs.declared.place.Place.TheVariants as places
use Rattle.facet_json_reader.specs.declared.reader.Stage.TheVariants as stages
use Rattle.facet_json_reader.specs.Inner.InSight.{not_told, reader_at}
use Rattle.facet_json_reader.specs.PlaceViews.{least_of}
use Rattle.facet_json_reader.proofs.AllowedTexts.{unescaped-allowed}
use Rattle.facet_json_reader.proofs.Fronts.{key-over, untold}
use Rattle.facet_json_reader.proofs.QuickEvents.{stands-reaches}
use Rattle.facet_json_reader.proofs.TakenPieces.{closed-text, closed-quoted, whole-quoted}
use Rattle.facet_json_reader.proofs.in_sight.pass_key.Goals as goal

pub returns-then-not-is_there-clause-left : goal.returns-then-not-is_there-clause-left
returns-then-not-is_there-clause-left g c = not_told

pub returns-in_err-end-clause-left : goal.returns-in_err-end-clause-left
returns-in_err-end-clause-left g c = untold _ _ c.from_residual.result

pub returns-then-not-is_there-2-clause-left : goal.returns-then-not-is_there-2-clause-left
returns-then-not-is_there-2-clause-left g c = not_told

pub take_piece-requires : goal.take_piece-requires
take_piece-requires g c =
    let closed = c.in_ok-end.ensures in
    λ k. ((refl, tt), (omega (arith, closed.0.ordered, closed.0.within), (_, (closed-quoted _ c.args.input.now c.args.from.at c.in_ok-end.end closed.0 closed.1, refl))))

pub past-requires : goal.past-requires
past-requires g c = omega (arith, slice_get_within c.args.input.now c.past_empty-colon.result colon (c.if-not-is_there-2.ensures refl))

pub returns-clause-over : goal.returns-clause-over
returns-clause-over g c =
    λ stack key reached.
    let buffer = c.args.input.now in
    let language = g.L.InLanguage.language in
    let from = c.args.from in
    let spoken = c.language.ensures in
    let text = rw spoken at c.in_ok-end.ensures in
    let closed = text.0 in
    let utf8 = text.1 in
    let end = c.in_ok-end.end in
    let mark = c.past_empty-colon.result in
    let to : Front = record { last = c.new.result; stage = stages.Within places.AfterColon; place = places.AfterColon; at = c.past.result } in
    let span : ℕ → ℕ → Span = λ x y. record { offset = x; len = y } in
    let last : span_of c.new.result ≡ span_at mark 1 = ap₂ span c.new.ensures.offset c.new.ensures.len in
    let here : mark + 1 ≡ stop (span_of c.new.result) = omega (arith, c.new.ensures.offset, c.new.ensures.len) in
    let within : stop (span_of c.new.result) ≤ length buffer = omega (arith, here) in
    let front = stands-reaches buffer language (reader_at stack to) after_colon (mark + 1) c.past.result refl within here c.past.ensures.end in
    let quoted = whole-quoted buffer from.at end closed.ordered closed.within in
    let taken = rw quoted at (c.in_ok-take_piece.ensures.taken _ (closed-quoted (least_of language) buffer from.at end closed utf8, refl)) in
    key-over (g.T.Takes.takes buffer) buffer language stack from to _ _ end mark (slice_range buffer (from.at + 1) end) (key (from.at + 1) end)
    (unescaped-allowed language buffer (from.at + 1) end closed.unescaped _ false) reached (closed-text (least_of language) buffer from.at end closed utf8)
    closed.ordered closed.within c.past_empty-colon.ensures.end (c.if-not-is_there-2.ensures refl) last refl front taken
