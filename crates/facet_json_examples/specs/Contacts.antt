-- How contacts are read and written: their fields, by their names in a document.
use Rattle.std.specs.Prelude.{ℕ, List, codes}
use Rattle.facet_json.specs.Shapes.{Shape, struct_of, needs, no_more}
use Rattle.facet_json.specs.Types.{borrowed, u64}

abbrev pub contact : Shape (ℕ × (List ℕ × (List ℕ × Unit {0})))
contact = struct_of (needs (codes "id") u64 (needs (codes "name") borrowed (needs (codes "email") borrowed no_more)))
