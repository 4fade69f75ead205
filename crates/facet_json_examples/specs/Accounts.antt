-- How accounts are read and written: their fields, by their names in a document.
use Rattle.std.specs.Prelude.{ℕ, ℤ, Bool, List, Option, codes}
use Rattle.facet_json.specs.Shapes.{Shape, struct_of, needs, may_have, no_more}
use Rattle.facet_json.specs.Types.{bool, text, u8, u32, u64, i32, list}

abbrev pub account : Shape (ℕ × (List ℕ × (List ℕ × (Bool × (ℕ × (ℤ × (ℕ × (Option (List ℕ) × (List (List ℕ) × (Option ℕ × Unit {0}))))))))))
account = struct_of
    (needs (codes "id") u64 (needs (codes "name") text (needs (codes "email") text (needs (codes "active") bool (needs (codes "age") u8
    (needs (codes "score") i32 (needs (codes "visits") u32 (may_have (codes "city") text (needs (codes "tags") (list text)
    (may_have (codes "parent") u64 no_more))))))))))
