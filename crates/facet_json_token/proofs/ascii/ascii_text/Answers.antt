-- A run that covers the bytes makes them text.
use Rattle.std.proofs.Common.{sym, ◌∙◌}
use Rattle.facet_json_token.proofs.AsciiRuns.{run-IsUtf8}
use Rattle.facet_json_token.proofs.ascii.ascii_text.Goals as goal

pub from_utf8_unchecked-requires : goal.from_utf8_unchecked-requires
from_utf8_unchecked-requires c =
    let a = c.args in
    run-IsUtf8 a.buf.now a.start a.end (sym c.is_ascii.ensures ∙ c.if-is_ascii.true)
