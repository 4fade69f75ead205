-- The parts at the offset tell the token, and a whole number its value.
use Rattle.std.proofs.Common.{ap, sym, ◌∙◌, arith}
use Rattle.std.proofs.lemmas.Option.{slice_get_within}
use Rattle.facet_format.specs.Number.{float}
use Rattle.facet_format.specs.Views.{hint_of}
use Rattle.facet_json_token.specs.NumberViews.{number_of}
use Rattle.facet_json_token.specs.Gap.{Mode, plain}
use Rattle.facet_json_reader.specs.Inner.Whole.{whole_scalar}
use Rattle.facet_json_reader.proofs.TokensThere.{there-fits, number-cut}
use Rattle.facet_json_reader.proofs.ValuesThere.{number-there}
use Rattle.facet_json_reader.proofs.number.short_by_parts.Goals as goal

pub measured_number-requires : goal.measured_number-requires
measured_number-requires c =
    let start = c.requires.here in
    let more = sym c.is_bare.ensures ∙ c.if-is_bare.false in
    let is = number-cut plain c.args.input.now c.args.at start.first c.len-len.result c.args.parts (hint_of c.hint-hint.result)
    start.here start.begins c.requires.parts c.len-len.ensures c.hint-hint.ensures more in
    let room = slice_get_within c.args.input.now c.args.at start.first start.here in
    let fits = there-fits plain c.args.input.now c.args.at c.len-len.result _ (omega (arith, room)) is in
    record { is_number = fits.kind_fits.is_a_number }

pub returns-in-Float-clause-there : goal.returns-in-Float-clause-there
returns-in-Float-clause-there c =
    let start = c.requires.here in
    let more = sym c.is_bare.ensures ∙ c.if-is_bare.false in
    let hint = sym (ap hint_of c.in-Float.is) ∙ c.hint-hint.ensures in
    let is = λ (mode : Mode). number-cut mode c.args.input.now c.args.at start.first c.len-len.result c.args.parts float
    start.here start.begins c.requires.parts c.len-len.ensures hint more in
    let room = slice_get_within c.args.input.now c.args.at start.first start.here in
    let fits = there-fits plain c.args.input.now c.args.at c.len-len.result _ (omega (arith, room)) (is plain) in
    record { cut = is; decimal = fits.kind_fits.is_a_number; within = omega (arith, fits.within) }

pub returns-clause-there : goal.returns-clause-there
returns-clause-there c =
    let start = c.requires.here in
    let more = sym c.is_bare.ensures ∙ c.if-is_bare.false in
    number-there c.args.input.now c.args.at start.first c.len-len.result c.args.parts (hint_of c.hint-hint.result) (number_of c.in_ok-number.number) (whole_scalar c.in_ok-whole_in.field-0)
    start.here start.begins c.requires.parts c.len-len.ensures c.hint-hint.ensures more (sym c.in_ok-number.ensures.number) c.in_ok-whole_in.ensures
