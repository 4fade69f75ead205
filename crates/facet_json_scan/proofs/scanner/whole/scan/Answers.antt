-- White space before a token leaves what is found as it is.
use Rattle.std.proofs.Common.{Ok}
use Rattle.facet_json_token.specs.Views.{mode_of}
use Rattle.facet_json_scan.specs.declared.scanner.token.Found.TheVariants as found
use Rattle.facet_json_scan.proofs.FoundPastGap.{found-blanks}
use Rattle.facet_json_scan.proofs.scanner.whole.scan.Goals as goal

pub returns-in-Some-clause-here : goal.returns-in-Some-clause-here
returns-in-Some-clause-here c =
    let at = c.gap_end-at.result in
    found-blanks (mode_of c.args.mode) c.args.buffer.now (found.Answer at (Ok c.in-Some.token)) c.args.position at c.requires c.gap_end-at.ensures.end c.in-Some.ensures.0
