-- A comma leads to the place after it.
use Rattle.std.proofs.Common.{◌≡◌, ◌+◌, ◌≤◌, length, refl, ap, ◌∙◌, arith}
use Rattle.facet_format.specs.Span.{stop}
use Rattle.facet_format.specs.Views.{span_of}
use Rattle.facet_json_grammar.specs.Language.{rules}
use Rattle.facet_json_grammar.specs.Place.{led}
use Rattle.facet_json_reader.specs.declared.reader.Reader.{Reader}
use Rattle.facet_json_reader.specs.declared.reader.Stage.TheVariants as stages
use Rattle.facet_json_reader.specs.PlaceViews.{place_of}
use Rattle.facet_json_reader.proofs.QuickEvents.{stands-reaches, comma-reaches}
use Rattle.facet_json_reader.proofs.in_sight.behind.Goals as goal

pub returns-then-is_there-clause-front : goal.returns-then-is_there-clause-front
returns-then-is_there-clause-front g c =
    λ stack.
    let a = c.args in
    let buffer = a.input.now in
    let language = g.L.InLanguage.language in
    let last = c.new-last.result in
    let r : Reader = record { last = last; contexts = stack; stage = stages.Within a.place } in
    let end = c.past_empty-end.result in
    let here : a.at + a.len ≡ stop (span_of last) = omega (arith, c.new-last.ensures.offset, c.new-last.ensures.len) in
    let within : stop (span_of last) ≤ length buffer = omega (arith, here, c.requires.within) in
    let reached = stands-reaches buffer language r (place_of a.place) (a.at + a.len) end refl within here c.past_empty-end.ensures.end in
    let led_there : place_of c.led.result ≡ led (rules language) (place_of a.next) =
    c.led.ensures ∙ ap (λ l. led (rules l) (place_of a.next)) c.language.ensures in
    rw led_there
    (comma-reaches buffer language r (place_of a.place) end (place_of a.next) c.past.result reached c.requires.comma (c.is_there.ensures c.if-is_there.true)
    c.past.ensures.end)
