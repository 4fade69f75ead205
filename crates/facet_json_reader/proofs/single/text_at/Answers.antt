-- The text between the quotes is the scalar's.
use Rattle.std.proofs.Common.{ap, sym, ◌∙◌}
use Rattle.facet_format.specs.Event.{borrowed, text}
use Rattle.facet_json_reader.proofs.TakenPieces.{closed-allowed}
use Rattle.facet_json_reader.proofs.single.text_at.Goals as goal

pub returns : goal.returns
returns c =
    let closed = c.in_ok-end.ensures in
    let allowed = closed-allowed _ c.args.input.now c.args.at c.in_ok-end.end closed.0 closed.1 in
    (allowed.0, allowed.1 ∙ ap (λ t. text (borrowed t)) (sym c.plain_text_unchecked.ensures.borrowed))
