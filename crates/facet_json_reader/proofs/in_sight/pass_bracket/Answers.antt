-- The byte there is the bracket.
use Rattle.std.proofs.Common.{refl}
use Rattle.facet_format.specs.Bytes as byte
use Rattle.facet_json_token.proofs.Offsets.{slice_get-from_read}
use Rattle.facet_json_reader.specs.Inner.InSight.{not_told}
use Rattle.facet_json_reader.proofs.Fronts.{untold}
use Rattle.facet_json_reader.proofs.in_sight.pass_bracket.Goals as goal

pub returns-in_err-get-clause-left : goal.returns-in_err-get-clause-left
returns-in_err-get-clause-left g c = untold _ _ c.from_residual.result

pub returns-in_default-clause-left : goal.returns-in_default-clause-left
returns-in_default-clause-left g c = not_told

pub pass_start-requires : goal.pass_start-requires
pass_start-requires g c =
    let w = c.in_ok-get in
    λ k. ((refl, tt), slice_get-from_read c.args.input.now c.args.from.at w.field-0.now byte.left_brace w.ensures.lookup.3 c.in-123.is)

pub pass_start-requires-in-91 : goal.pass_start-requires-in-91
pass_start-requires-in-91 g c =
    let w = c.in_ok-get in
    λ k. ((refl, tt), slice_get-from_read c.args.input.now c.args.from.at w.field-0.now byte.left_bracket w.ensures.lookup.3 c.in-91.is)

pub pass_end-requires : goal.pass_end-requires
pass_end-requires g c =
    let w = c.in_ok-get in
    λ k. ((refl, tt), slice_get-from_read c.args.input.now c.args.from.at w.field-0.now byte.right_brace w.ensures.lookup.3 c.in-125.is)

pub pass_end-requires-in-93 : goal.pass_end-requires-in-93
pass_end-requires-in-93 g c =
    let w = c.in_ok-get in
    λ k. ((refl, tt), slice_get-from_read c.args.input.now c.args.from.at w.field-0.now byte.right_bracket w.ensures.lookup.3 c.in-93.is)

pub pass_escaped-requires : goal.pass_escaped-requires
pass_escaped-requires g c =
    let w = c.in_ok-get in
    λ k. ((refl, tt), slice_get-from_read c.args.input.now c.args.from.at w.field-0.now byte.quote w.ensures.lookup.3 c.in-34.is)
