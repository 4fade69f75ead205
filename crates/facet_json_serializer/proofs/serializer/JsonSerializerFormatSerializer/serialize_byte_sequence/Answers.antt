use Rattle.std.proofs.Common.{rules}
use Rattle.facet_json_serializer.proofs.serializer.JsonSerializerFormatSerializer.serialize_byte_sequence.Goals as goal

pub returns-in-Ok-clause-serves : goal.returns-in-Ok-clause-serves
returns-in-Ok-clause-serves c = search rules

pub returns-in-Ok-clause-appends : goal.returns-in-Ok-clause-appends
returns-in-Ok-clause-appends c = search rules

pub returns-in-Ok-clause-written : goal.returns-in-Ok-clause-written
returns-in-Ok-clause-written c = search rules
