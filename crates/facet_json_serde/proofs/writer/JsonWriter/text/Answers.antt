use Rattle.std.proofs.Common.{rules}
use Rattle.std.specs.Prelude.{IsUtf8}
use Rattle.std.proofs.lemmas.Str.{is_utf8-from_IsUtf8}
use Rattle.facet_json_serde.proofs.writer.JsonWriter.text.Goals as goal

pub scalar-requires : goal.scalar-requires
scalar-requires c = let utf8 : IsUtf8 c.args.text.now = search rules in is_utf8-from_IsUtf8 _ utf8
