use Rattle.facet_json_grammar.proofs.RefusalRepeats.{refused-repeats}
use Rattle.facet_json_grammar.proofs.laws.parsers.refusal_repeats.Goals as goal

pub returns : goal.returns
returns c = refused-repeats
