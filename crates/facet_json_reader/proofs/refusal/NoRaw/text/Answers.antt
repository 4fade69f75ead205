use Rattle.std.proofs.Common.{rules}
use Rattle.facet_json_reader.proofs.refusal.NoRaw.text.Goals as goal

pub returns-in-Key : goal.returns-in-Key
returns-in-Key c = search rules

pub returns-in-End : goal.returns-in-End
returns-in-End c = search rules

pub returns-in-Text : goal.returns-in-Text
returns-in-Text c = search rules
