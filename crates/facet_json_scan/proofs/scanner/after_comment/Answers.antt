-- After a closed comment it is found from the comment on, and an open one is found itself.
use Rattle.std.proofs.Common.{refl}
use Rattle.facet_json_token.specs.Views.{mode_of}
use Rattle.facet_json_scan.specs.Inner.Found.{state_of}
use Rattle.facet_json_scan.specs.declared.scanner.token.Found.TheVariants as found
use Rattle.facet_json_scan.proofs.FoundPastGap.{found-no_gap, found-piece}
use Rattle.facet_json_scan.proofs.NoPiece.{open_no_piece}
use Rattle.facet_json_scan.proofs.scanner.after_comment.Goals as goal

pub returns-in-Closed-clause-here : goal.returns-in-Closed-clause-here
returns-in-Closed-clause-here c = λ h.
    let within = rw c.in-Closed.is at c.requires.within in
    let ends = rw c.in-Closed.is at h in
    found-piece (mode_of c.args.mode) c.args.buffer.now c.args.start c.in-Closed.end c.scan_from.result within.0 within.1
    ends c.scan_from.ensures.here

pub returns-in-Open-clause-here : goal.returns-in-Open-clause-here
returns-in-Open-clause-here c = λ h.
    let described = rw c.in-Open.is at h in
    found-no_gap (mode_of c.args.mode) c.args.buffer.now c.args.start (found.Open c.args.start c.in-Open.state)
    c.requires.room (open_no_piece (mode_of c.args.mode) (state_of c.in-Open.state) _ described) (refl, described)
