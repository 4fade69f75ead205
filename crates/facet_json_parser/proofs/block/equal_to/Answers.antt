use Rattle.std.proofs.Common.{ℕ, eqb, false, map, ap, ◌∙◌, arith, w8}
use Rattle.std.proofs.lemmas.Simd.{bitmask_splat}
use Rattle.std.proofs.lemmas.List.{get_or-map}
use Rattle.facet_json_parser.specs.Inner.Marks.{test}
use Rattle.facet_json_parser.proofs.Bits.Test.{test-mask_l}
use Rattle.facet_json_parser.proofs.block.equal_to.Goals as goal

pub returns : goal.returns
returns c i h =
    let p = λ (x : ℕ). eqb x c.args.byte in
    ap (λ n. test n i) (bitmask_splat w8 eqb c.args.v 64 c.args.byte c.fits-v.0 (omega arith)) ∙ test-mask_l (map p c.args.v) i ∙ get_or-map p c.args.v i 0 false (omega (arith, c.fits-v.0))
