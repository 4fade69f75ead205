-- The laws of a struct whose text is lent, field by field.
use Rattle.std.specs.Prelude.{codes, refl}
use Rattle.facet_json.specs.Shapes.{ShapeLaws}
use Rattle.facet_json.proofs.StructLaws.{struct-laws, needs-laws, no_more-laws}
use Rattle.facet_json.proofs.TypeLaws.{borrowed-laws, u32-laws}
use Rattle.facet_json_row_values.specs.Lent.{lent_person}

pub lent_person-laws : ShapeLaws lent_person
lent_person-laws = struct-laws (needs-laws (codes "name") borrowed-laws (needs-laws (codes "age") u32-laws no_more-laws)) refl
