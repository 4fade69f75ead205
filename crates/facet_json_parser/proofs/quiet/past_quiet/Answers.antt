-- Each token and each gap leads on.
use Rattle.facet_json_token.specs.Views.{mode_of}
use Rattle.facet_json_parser.proofs.QuietTokens.{gap-leads_on, leads_on-twice}
use Rattle.facet_json_parser.proofs.quiet.past_quiet.Goals as goal

pub loop-end-init : goal.loop-end-init
loop-end-init c = record {
  leads = gap-leads_on c.args.input.now (mode_of c.args.mode) c.args.position c.gap_end-at.result c.requires c.gap_end-at.ensures.end;
  gap = record { from = c.args.position; fits = c.requires; gap = c.gap_end-at.ensures.end };
}

pub loop-end-preserved : goal.loop-end-preserved
loop-end-preserved c =
    let l = c.loop-end in
    let buffer = c.args.input.now in
    let mode = mode_of c.args.mode in
    let e = c.in-Some.end in
    let fits = c.in-Some.ensures.past.1 in
    let token = c.in-Some.ensures.on mode l.invariant.gap in
    let gap = gap-leads_on buffer mode e c.gap_end-at-in-Some.result fits c.gap_end-at-in-Some.ensures.end in
    record {
      leads = leads_on-twice buffer mode c.args.position l.at _ l.invariant.leads (leads_on-twice buffer mode l.at e _ token gap);
      gap = record { from = e; fits = fits; gap = c.gap_end-at-in-Some.ensures.end };
    }
