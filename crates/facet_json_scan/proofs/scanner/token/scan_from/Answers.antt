-- A piece more leaves what is found as it is, and where the gap ends it is found.
use Rattle.std.proofs.Common.{refl}
use Rattle.facet_json_token.specs.Views.{mode_of}
use Rattle.facet_json_scan.specs.Inner.Found.{state_of}
use Rattle.facet_json_scan.specs.declared.scanner.token.Found.TheVariants as found
use Rattle.facet_json_scan.proofs.FoundPastGap.{found-no_gap, found-piece, found-blanks}
use Rattle.facet_json_scan.proofs.NoPiece.{open_no_piece}
use Rattle.facet_json_scan.proofs.Refusals.{found-refused}
use Rattle.facet_json_scan.proofs.scanner.token.scan_from.Goals as goal

pub loop-end-init : goal.loop-end-init
loop-end-init c = record {
  within = c.gap_end-at.ensures.within;
  same = λ f h. found-blanks (mode_of c.args.mode) c.args.buffer.now f c.args.position _ c.requires c.gap_end-at.ensures.end h;
}

pub loop-end-preserved : goal.loop-end-preserved
loop-end-preserved c =
    let within = c.in-Closed.ensures.within in
    let gap = c.gap_end-at-in-Closed.ensures in
    record {
      within = gap.within;
      same = λ f h.
          c.loop-end.invariant.same f
          (found-piece (mode_of c.args.mode) c.args.buffer.now c.loop-end.at c.in-Closed.end f within.0 within.1
          c.in-Closed.ensures.here (found-blanks (mode_of c.args.mode) c.args.buffer.now f c.in-Closed.end _ within.1 gap.end h));
    }

pub returns-in-Open-clause-here : goal.returns-in-Open-clause-here
returns-in-Open-clause-here c =
    let mode = mode_of c.args.mode in
    let described = c.in-Open.ensures.here in
    c.loop-end.invariant.same (found.Open c.loop-end.at c.in-Open.state)
    (found-no_gap mode c.args.buffer.now c.loop-end.at (found.Open c.loop-end.at c.in-Open.state) c.loop-end.invariant.within
    (open_no_piece mode (state_of c.in-Open.state) _ described) (refl, described))

pub returns-in-Absent-clause-here : goal.returns-in-Absent-clause-here
returns-in-Absent-clause-here c =
    let absent = c.in-Absent.ensures.here in
    c.loop-end.invariant.same c.token_from.result
    (found-no_gap (mode_of c.args.mode) c.args.buffer.now c.loop-end.at _ c.loop-end.invariant.within absent.0
    (c.token_from.ensures.here absent.1))

pub returns-in-Absent-clause-refusal : goal.returns-in-Absent-clause-refusal
returns-in-Absent-clause-refusal c =
    let mode = mode_of c.args.mode in
    let buffer = c.args.buffer.now in
    let absent = c.in-Absent.ensures.here in
    found-refused mode buffer c.loop-end.at c.token_from.result c.loop-end.invariant.within
    (found-no_gap mode buffer c.loop-end.at _ c.loop-end.invariant.within absent.0 (c.token_from.ensures.here absent.1))
