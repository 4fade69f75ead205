-- The first bit of the mask is the first byte that needs an escape.
use Rattle.std.proofs.Common.{◌≡◌, ap, ◌∙◌, arith}
use Rattle.std.proofs.lemmas.Simd.{leading_from_mask_l, trailing_mask_l}
use Rattle.std.proofs.lemmas.List.Sums.{prefix_len-le-length}
use Rattle.std.specs.List.{prefix_len}
use lib.Count.{count_trailing_zeros}
use Rattle.facet_json_serializer.specs.Inner.Window.{needs_escape, needs_no_escape}
use Rattle.facet_json_serializer.proofs.quote.plain_lanes.Goals as goal

first_bit : (c : goal.Else-found-eq0) → count_trailing_zeros 64 c.escapes-found.result ≡ prefix_len needs_no_escape c.args.bytes
first_bit c =
    let v = c.args.bytes in
    let found = c.escapes-found.ensures in
    ap (count_trailing_zeros 64) found ∙ trailing_mask_l needs_escape 64 v (omega (arith, c.fits-bytes.0)) (omega (arith, found))

pub returns-then-found-eq0-clause-value : goal.returns-then-found-eq0-clause-value
returns-then-found-eq0-clause-value c =
    let v = c.args.bytes in
    let none = leading_from_mask_l needs_escape v (omega (arith, c.escapes-found.ensures)) in
    omega (arith, none, c.fits-bytes.0)

pub returns-else-found-eq0-clause-value : goal.returns-else-found-eq0-clause-value
returns-else-found-eq0-clause-value c = first_bit c

pub returns-else-found-eq0-clause-within : goal.returns-else-found-eq0-clause-within
returns-else-found-eq0-clause-within c = omega (arith, first_bit c, prefix_len-le-length needs_no_escape c.args.bytes, c.fits-bytes.0)
