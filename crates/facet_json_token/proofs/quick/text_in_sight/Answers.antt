-- The text ends at its quote, and no gap is before it.
use Rattle.std.proofs.Common.{◌+◌, Some, false, ap, sym, ◌∙◌, refl}
use Rattle.facet_format.specs.Bytes.{quote}
use Rattle.facet_json_token.specs.Token.{string}
use Rattle.facet_json_token.proofs.InSight.{cut-here}
use Rattle.facet_json_token.proofs.quick.text_in_sight.Goals as goal

pub returns : goal.returns
returns c =
    let buffer = c.args.buffer.now in
    let at = c.args.at in
    let end = c.in_ok-end.end in
    λ mode. c.spanned.ensures (string (at + 1) end false) refl
    ∙ ap Some (sym (c.in_ok-end.ensures.token mode) ∙ cut-here mode buffer at quote c.requires refl refl)
