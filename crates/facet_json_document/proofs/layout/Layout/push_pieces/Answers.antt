-- All is laid out where nothing is left.
use Rattle.std.proofs.Common.{◌∙◌, ap}
use Rattle.std.proofs.lemmas.Result.{on_ok_weaker}
use Rattle.facet_json_token.specs.Views.{mode_of}
use Rattle.facet_json_document.specs.Pieces.{pieces}
use Rattle.facet_json_document.proofs.LaidOut.{laid-end}
use Rattle.facet_json_document.proofs.layout.Layout.push_pieces.Goals as goal

pub returns-in-End : goal.returns-in-End
returns-in-End c =
    let p = c.loop-byte.progress in
    on_ok_weaker c.push.result
    (λ h. ap (pieces (mode_of c.args.self.now.mode)) h
    ∙ laid-end (mode_of c.args.self.now.mode) c.args.self.now.text.now p.at p.last c.loop-byte.out c.loop-byte.invariant c.in-End.ensures)
    c.push.ensures
