-- A strict document is laid out, and is refused for lack of memory alone.
use Rattle.facet_json_token.specs.Gap.{plain}
use Rattle.facet_json_document.proofs.AllTokens.{one-tokens}
use Rattle.facet_json_document.proofs.formatting.format_text_strict.Goals as goal

pub lay_out-requires : goal.lay_out-requires
lay_out-requires c =
    let d = c.in_ok-check_strict.ensures.document in
    one-tokens c.args.text.now plain d.0 d.1 d.2.whole.reads
