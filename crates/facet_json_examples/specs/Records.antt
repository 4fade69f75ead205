-- How the structs of `records` are read and written: the fields of each, by their names in a document.
use Rattle.std.specs.Prelude.{ℕ, List, Option, codes}
use Rattle.facet_json.specs.Shapes.{Shape, struct_of, needs, may_have, no_more}
use Rattle.facet_json.specs.Types.{text, u16, u32, list}

abbrev pub person : Shape (List ℕ × (ℕ × Unit {0}))
person = struct_of (needs (codes "name") text (needs (codes "age") u32 no_more))

-- a response, by how its payload is read and written
abbrev pub response : {V : Type 0} → Shape V → Shape (ℕ × (V × Unit {0}))
response payload = struct_of (needs (codes "status") u32 (needs (codes "data") payload no_more))

abbrev pub retry : Shape (ℕ × (Option ℕ × Unit {0}))
retry = struct_of (needs (codes "times") u32 (may_have (codes "wait") u32 no_more))

abbrev pub config : Shape (List ℕ × (Option ℕ × (List (List ℕ) × (Option (ℕ × (Option ℕ × Unit {0})) × Unit {0}))))
config = struct_of (needs (codes "host") text (may_have (codes "port") u16 (needs (codes "tags") (list text) (may_have (codes "retry") retry no_more))))
