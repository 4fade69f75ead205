use Rattle.std.proofs.lemmas.Str.{is_utf8-from_IsUtf8}
use Rattle.facet_json_serde.proofs.writer.JsonWriter.room_text.Goals as goal

pub scalar-answer-requires : goal.scalar-answer-requires
scalar-answer-requires c = is_utf8-from_IsUtf8 _ c.as_str-text.utf8
