use Rattle.std.proofs.Common.{rules}
use Rattle.facet_format.proofs.line.begins_character.Goals as goal

pub returns-then-byte-lt128 : goal.returns-then-byte-lt128
returns-then-byte-lt128 c = search rules

pub returns-else-byte-lt128 : goal.returns-else-byte-lt128
returns-else-byte-lt128 c = search rules
