use Rattle.facet_json_core.proofs.Meaning.StrictTexts.{strict-reads_texts}
use Rattle.facet_json_core.proofs.laws.meaning.strict_reads_texts.Goals as goal

pub returns : goal.returns
returns c = strict-reads_texts
