-- The parts at the offset tell the token, or that nothing but a minus stands there.
use Rattle.std.proofs.Common.{◌+◌, drop, Some, ap, sym, ◌∙◌, refl}
use Rattle.facet_format.specs.NumberParts.{parts, is_bare}
use Rattle.facet_format.specs.Views.{hint_of}
use Rattle.facet_json_token.specs.Token.{number}
use Rattle.facet_json_token.proofs.NumberCuts.{cut_number-parts}
use Rattle.facet_json_token.proofs.quick.number_in_sight.Goals as goal

pub returns-then-is_bare-clause-bare : goal.returns-then-is_bare-clause-bare
returns-then-is_bare-clause-bare c = sym (c.is_bare.ensures ∙ ap is_bare c.parts_at-parts.ensures.parts) ∙ c.if-is_bare.true

pub returns-clause-told : goal.returns-clause-told
returns-clause-told c =
    let at = c.args.at in
    let bytes = drop at c.args.buffer.now in
    let rest = drop (at + 1) c.args.buffer.now in
    let q = c.parts_at-parts.result in
    let h = hint_of c.hint.result in
    let more = sym c.is_bare.ensures ∙ c.if-is_bare.false in
    c.spanned.ensures (number at (at + c.len-len.result) h) refl
    ∙ ap Some (cut_number-parts q (parts bytes) rest h at c.len-len.result c.parts_at-parts.ensures.parts
    c.len-len.ensures c.hint.ensures more)
