use Rattle.std.proofs.Common.{rules}
use Rattle.facet_json_serializer.proofs.quote.needs_escape.Goals as goal

pub returns-then-byte-eq92 : goal.returns-then-byte-eq92
returns-then-byte-eq92 c = search rules

pub returns-else-byte-eq92 : goal.returns-else-byte-eq92
returns-else-byte-eq92 c = search rules
