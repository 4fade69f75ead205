-- A piece more is laid out, or a comma that trails is passed.
use Rattle.std.proofs.Common.{◌∙◌, sym}
use Rattle.std.proofs.lemmas.Bool.{and_parts}
use Rattle.facet_json_token.specs.Views.{mode_of}
use Rattle.facet_json_document.proofs.LaidOut.{laid-without, laid-piece}
use Rattle.facet_json_document.proofs.layout.Layout.push_piece.Goals as goal

pub returns-then-trails-clause-laid : goal.returns-then-trails-clause-laid
returns-then-trails-clause-laid c =
    let r = c.requires in
    let two = and_parts _ _ (sym c.trails.ensures ∙ c.if-trails.true) in
    rw (c.past_comma.ensures.at, c.past_comma.ensures.last)
    (laid-without (mode_of c.args.self.now.mode) c.args.self.now.text.now c.args.progress.at c.args.end c.args.progress.last c.args.sort c.args.out.now r.laid r.ahead r.piece
    two.0 two.1)

pub returns-clause-laid : goal.returns-clause-laid
returns-clause-laid c =
    let r = c.requires in
    rw (c.past.ensures.at, c.past.ensures.last)
    (laid-piece (mode_of c.args.self.now.mode) c.args.self.now.text.now c.args.progress.at c.args.end c.args.progress.last c.args.sort c.args.out.now r.laid r.ahead r.piece
    _ _ _ (sym c.trails.ensures ∙ c.if-trails.false) c.space_before-space.ensures c.in_ok-push_space.ensures c.in_ok-extend_from_slice.ensures)
