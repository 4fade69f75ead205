-- How a struct whose text is lent is read and written: its fields, by their names in a document.
use Rattle.std.specs.Prelude.{ℕ, List, codes}
use Rattle.facet_json.specs.Shapes.{Shape, struct_of, needs, no_more}
use Rattle.facet_json.specs.Types.{borrowed, u32}

abbrev pub lent_person : Shape (List ℕ × (ℕ × Unit {0}))
lent_person = struct_of (needs (codes "name") borrowed (needs (codes "age") u32 no_more))
