-- The next token closes where the byte after the gap does.
use Rattle.std.proofs.Common.{◌∙◌, refl, sym, ap, arith}
use Rattle.std.proofs.lemmas.List.{drop_all}
use Rattle.facet_json_token.specs.Views.{mode_of}
use Rattle.facet_json_token.proofs.Offsets.{drop-at_byte, slice_get-from_read}
use Rattle.facet_json_document.proofs.PiecesFound.{closes_first}
use Rattle.facet_json_document.proofs.PiecesCut.{closing-there}
use Rattle.facet_json_document.proofs.pieces.closes_next.Goals as goal

pub returns-in-Some : goal.returns-in-Some
returns-in-Some c =
    let byte = slice_get-from_read c.args.text.now c.skip_gap.result c.in-Some.byte.now c.in-Some.byte.now c.in-Some.ensures.lookup.3 refl in
    c.is_closing.ensures
    ∙ sym (closing-there (mode_of c.args.mode) c.args.text.now c.args.at c.skip_gap.result c.skip_gap.ensures.end
    ∙ ap closes_first (drop-at_byte c.args.text.now c.skip_gap.result c.in-Some.byte.now byte))

pub returns-in-None : goal.returns-in-None
returns-in-None c =
    sym (closing-there (mode_of c.args.mode) c.args.text.now c.args.at c.skip_gap.result c.skip_gap.ensures.end
    ∙ ap closes_first (drop_all c.skip_gap.result c.args.text.now (omega (arith, c.in-None.ensures.lookup))))
