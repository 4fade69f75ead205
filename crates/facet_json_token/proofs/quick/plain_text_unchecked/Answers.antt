-- A plain content that is UTF-8 stands for itself.
use Rattle.std.proofs.Common.{Some, sym, ap, ◌∙◌}
use Rattle.std.specs.Prelude.{slice_range}
use Rattle.facet_json_token.proofs.PlainText.{decoded-plain}
use Rattle.facet_json_token.proofs.quick.plain_text_unchecked.Goals as goal

pub returns-clause-text : goal.returns-clause-text
returns-clause-text c =
    let a = c.args in
    decoded-plain (slice_range a.buf.now a.start a.end) c.requires.plain c.requires.utf8 ∙ ap Some (sym c.from_utf8_unchecked.ensures)
