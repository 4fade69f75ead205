use Rattle.std.proofs.Common.{sym, ◌∙◌}
use Rattle.std.specs.Str.{bytes_eq}
use Rattle.std.proofs.lemmas.Bool.Decides.{not_from_Decides}
use Rattle.std.proofs.lemmas.Slice.Eq.{bytes_eq-Decides}
use Rattle.facet_json_core.proofs.Meaning.Leaves.WideNumbers.{unsigned_text-parsed, unsigned_text-other, unsigned_text-unparsed}
use Rattle.facet_json_facet.proofs.wide.unsigned_text.Goals as goal

pub returns-in_default : goal.returns-in_default
returns-in_default c = sym (unsigned_text-unparsed c.args.text.now c.parse.result c.in_default.field-0 c.parse.ensures.value.0 c.in_default.is)

pub returns-then-eq : goal.returns-then-eq
returns-then-eq c =
    let same = (bytes_eq-Decides c.format.result.now c.args.text.now).0 (sym c.if-eq.ensures) in
    sym (unsigned_text-parsed _ c.parse.result c.in-Ok.n c.parse.ensures.value.0 c.in-Ok.is (sym c.format.ensures.text ∙ same))

pub returns-else-eq : goal.returns-else-eq
returns-else-eq c =
    let other = not_from_Decides (bytes_eq c.format.result.now c.args.text.now) (bytes_eq-Decides c.format.result.now c.args.text.now) (sym c.if-eq.ensures) in
    sym (unsigned_text-other _ c.parse.result c.in-Ok.n c.parse.ensures.value.0 c.in-Ok.is (λ e. other (c.format.ensures.text ∙ e)))
