use Rattle.std.proofs.Common.{sym}
use Rattle.facet_json_core.proofs.Meaning.Leaves.WideNumbers.{signed_text-unparsed}
use Rattle.facet_json_facet.proofs.wide.signed_text.Goals as goal

pub returns-in_default : goal.returns-in_default
returns-in_default c = sym (signed_text-unparsed c.args.text.now c.parse.result c.in_default.field-0 c.parse.ensures.value.0 c.in_default.is)
