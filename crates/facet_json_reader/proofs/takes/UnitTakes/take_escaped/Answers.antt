-- A text that is there is taken.
use Rattle.std.proofs.Common.{sym, ◌∙◌, arith}
use Rattle.facet_format.specs.Views.{span_of}
use Rattle.facet_json_reader.proofs.EscapedTexts.{text-told}
use Rattle.facet_json_reader.proofs.takes.UnitTakes.take_escaped.Goals as goal

pub returns-clause-taken : goal.returns-clause-taken
returns-clause-taken c =
    λ done.
    text-told c.args.input.now (span_of c.args.span) c.end.result c.args.self.now c.args.self.now c.check_content.result (sym c.is_ok.ensures.value ∙ done)
    (c.end.ensures.fits (omega (arith, c.requires.within))) c.check_content.ensures.text
