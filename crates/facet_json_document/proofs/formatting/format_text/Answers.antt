-- One document is laid out.
use Rattle.facet_json_token.specs.Views.{mode_of}
use Rattle.facet_json_document.proofs.AllTokens.{one-tokens}
use Rattle.facet_json_document.proofs.formatting.format_text.Goals as goal

pub lay_out-requires : goal.lay_out-requires
lay_out-requires c =
    let d = c.in_ok-check_whole.ensures.document in
    one-tokens c.args.text.now (mode_of c.args.mode) d.0 d.1 d.2
