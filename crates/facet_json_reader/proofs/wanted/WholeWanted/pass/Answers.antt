-- The number gives its event.
use Rattle.facet_json_reader.specs.Inner.Whole.{whole_scalar}
use Rattle.facet_json_reader.specs.PlaceViews.{language_of}
use Rattle.facet_json_reader.proofs.wanted.WholeWanted.pass.Goals as goal

pub returns : goal.returns
returns c =
    let r = c.in_ok-at.ensures.reaches in
    let n = c.in_ok-len in
    c.pass_scalar-span.ensures c.args.input.now (language_of c.args.language) r.0 (whole_scalar n.whole) n.ensures.0 n.ensures.1 r.1 r.2
