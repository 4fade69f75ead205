-- White space is no piece.
use Rattle.std.proofs.Common.{◌∙◌, ◌+◌, sym, ap, drop}
use Rattle.std.proofs.lemmas.Option.{slice_get_within}
use Rattle.facet_json_token.specs.Views.{mode_of}
use Rattle.facet_json_token.proofs.Offsets.{drop-at_byte}
use Rattle.facet_json_document.specs.Pieces.{pieces}
use Rattle.facet_json_document.proofs.PieceSteps.{pieces-blank}
use Rattle.facet_json_document.proofs.pieces.found_at.Goals as goal

pub returns-then-is_blank : goal.returns-then-is_blank
returns-then-is_blank c =
    let mode = mode_of c.args.mode in
    let text = c.args.text.now in (
      slice_get_within text c.args.at c.args.first c.requires,
      ap (pieces mode) (drop-at_byte text c.args.at c.args.first c.requires)
          ∙ pieces-blank mode c.args.first (drop (c.args.at + 1) text) (sym c.is_blank.ensures ∙ c.if-is_blank.true),
    )
