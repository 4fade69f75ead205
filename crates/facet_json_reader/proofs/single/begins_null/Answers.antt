-- Null begins with its first letter.
use Rattle.std.proofs.Common.{refl, arith}
use Rattle.facet_json_token.proofs.Offsets.{slice_get-from_read}
use Rattle.facet_json_reader.proofs.FirstBytesOfEvents.{null-begins, null-within}
use Rattle.facet_json_reader.proofs.single.begins_null.Goals as goal

pub returns-in-Some : goal.returns-in-Some
returns-in-Some c =
    λ other len there.
    let w = c.in-Some in
    null-begins _ c.args.input.now c.args.at len w.first.now
    (slice_get-from_read c.args.input.now c.args.at w.first.now w.first.now w.ensures.lookup.3 refl) other there

pub returns-in-None : goal.returns-in-None
returns-in-None c = λ other len there. null-within _ c.args.input.now c.args.at len (omega (arith, c.in-None.ensures.lookup)) there
