-- At the end nothing is left.
use Rattle.std.proofs.Common.{◌∙◌, ap, arith}
use Rattle.std.proofs.lemmas.List.{drop_all}
use Rattle.facet_json_token.specs.Views.{mode_of}
use Rattle.facet_json_document.specs.Pieces.{pieces}
use Rattle.facet_json_document.proofs.PieceSteps.{pieces-none}
use Rattle.facet_json_document.proofs.pieces.find.Goals as goal

pub returns-in-None : goal.returns-in-None
returns-in-None c all =
    ap (pieces (mode_of c.args.mode)) (drop_all c.args.at c.args.text.now (omega (arith, c.in-None.ensures.lookup))) ∙ pieces-none (mode_of c.args.mode)
