use Rattle.std.proofs.Common.{ℕ}
use Rattle.std.proofs.lemmas.Simd.{zip2_splat}
use lib.Bits.{bit_or}
use Rattle.facet_json_parser.specs.Inner.Marks.{is_calm}
use Rattle.facet_format.proofs.Lanes.{equal as hit, at_most, either}
use Rattle.facet_json_parser.proofs.Bits.Lanes.{together, ahead, equal, classified}
use Rattle.facet_json_parser.proofs.block.calm.Goals as goal

pub returns : goal.returns
returns c =
    let v = c.args.v in
    let is = λ (y : ℕ). zip2_splat hit v 64 y c.fits-v.0 in
    let paired = equal (λ x. bit_or x 4) 13 v c.fits-v.0 (zip2_splat bit_or v 64 4 c.fits-v.0) in
    let range = together _ _ v (ahead at_most 48 64 v c.fits-v.0) (zip2_splat at_most v 64 58 c.fits-v.0) in
    classified _ is_calm v _ c.fits-v (either _ _ v (either _ _ v (either _ _ v (either _ _ v (either _ _ v (is 32) (is 10)) paired) (is 34)) (is 44)) range) tt
