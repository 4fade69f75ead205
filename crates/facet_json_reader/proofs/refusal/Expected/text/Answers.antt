use Rattle.std.proofs.Common.{rules}
use Rattle.facet_json_reader.proofs.refusal.Expected.text.Goals as goal

pub returns-in-ValueOrArrayEnd : goal.returns-in-ValueOrArrayEnd
returns-in-ValueOrArrayEnd c = search rules
