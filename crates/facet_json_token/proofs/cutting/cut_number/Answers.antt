-- The number that is in sight is cut, or nothing but a minus stands there.
use Rattle.std.proofs.Common.{◌+◌, drop, Some, ap, sym, ◌∙◌}
use Rattle.facet_format.specs.NumberParts.{parts, parts_len, parts_hint}
use Rattle.facet_json_token.specs.Cut.{cut_number}
use Rattle.facet_json_token.proofs.InSight.{cut_of-told}
use Rattle.facet_json_token.proofs.cutting.cut_number.Goals as goal

pub returns-in-Some : goal.returns-in-Some
returns-in-Some c = cut_of-told c.in-Some.token _ c.in-Some.ensures.told

pub returns-in-None : goal.returns-in-None
returns-in-None c =
    let at = c.args.at in
    let rest = drop (at + 1) c.args.buffer.now in
    let p = parts (drop at c.args.buffer.now) in
    c.cut_bare_minus.ensures ∙ ap (λ v. Some (cut_number at rest (parts_len p) (parts_hint p) v)) (sym c.in-None.ensures.bare)
