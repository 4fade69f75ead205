use Rattle.facet_json_serializer.proofs.Settled.{bytes-of_fixed_number, serves-bytes}
use Rattle.facet_json_serializer.proofs.serializer.JsonSerializerFormatSerializer.serialize_byte_array.Goals as goal

pub returns : goal.returns
returns c =
    let done = bytes-of_fixed_number _ _ _ _ c.serialize_byte_sequence.ensures.appends in
    record {
      serves = serves-bytes _ _ _ c.serialize_byte_sequence.result done c.serialize_byte_sequence.ensures.written;
      appends = done;
      written = c.serialize_byte_sequence.ensures.written;
    }
