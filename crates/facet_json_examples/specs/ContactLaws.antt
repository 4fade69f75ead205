-- The laws of contacts, field by field.
use Rattle.std.specs.Prelude.{codes, refl}
use Rattle.facet_json.specs.Shapes.{ShapeLaws}
use Rattle.facet_json.proofs.StructLaws.{struct-laws, needs-laws, no_more-laws}
use Rattle.facet_json.proofs.TypeLaws.{borrowed-laws, u64-laws}
use Rattle.facet_json_examples.specs.Contacts.{contact}

pub contact-laws : ShapeLaws contact
contact-laws = struct-laws (needs-laws (codes "id") u64-laws (needs-laws (codes "name") borrowed-laws (needs-laws (codes "email") borrowed-laws no_more-laws))) refl
