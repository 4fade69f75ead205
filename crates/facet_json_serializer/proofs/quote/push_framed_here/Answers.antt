-- A short text that needs no escape stands for itself.
use Rattle.facet_json_serializer.proofs.PlainTexts.{plain_text}
use Rattle.facet_json_serializer.proofs.quote.push_framed_here.Goals as goal

pub returns-then-plain_short : goal.returns-then-plain_short
returns-then-plain_short c =
    let plain = plain_text c.as_bytes-bytes.result.now c.if-plain_short.ensures in
    rw (← c.as_bytes-bytes.ensures.value, plain) c.push_short.ensures
