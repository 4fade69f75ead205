use Rattle.std.proofs.Common.{arith}
use Rattle.facet_json_serde.proofs.ByteLists.{bytes-below}
use Rattle.facet_json_serde.proofs.writer.JsonWriterSerializer.bytes.Goals as goal

pub scalar-requires : goal.scalar-requires
scalar-requires c = bytes-below c.args.v.now (λ i. let f = c.type_inv.v i in omega arith)
