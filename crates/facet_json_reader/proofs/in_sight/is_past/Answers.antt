-- A byte that begins no piece of a gap ends it.
use Rattle.std.proofs.Common.{◌≡◌, refl, ap, ◌∙◌, subst}
use Rattle.facet_json_token.specs.Cut.{past_gap}
use Rattle.facet_json_token.specs.Views.{mode_of}
use Rattle.facet_json_token.proofs.Offsets.{slice_get-from_read}
use Rattle.facet_json_grammar.specs.Language.{gaps}
use Rattle.facet_json_reader.proofs.Fronts.{gap-ends}
use Rattle.facet_json_reader.proofs.in_sight.is_past.Goals as goal

pub returns-in-Some : goal.returns-in-Some
returns-in-Some g c =
    λ none.
    let buffer = c.args.input.now in
    let at = c.args.at in
    let b = c.in-Some.byte.now in
    let here = slice_get-from_read buffer at b b c.in-Some.ensures.lookup.3 refl in
    let mode : mode_of c.mode.result ≡ gaps g.L.InLanguage.language = c.mode.ensures ∙ ap gaps c.language.ensures in
    subst (λ m. at ≡ past_gap buffer at m) mode (gap-ends (mode_of c.mode.result) buffer at b here (c.begins_no_gap.ensures none))
