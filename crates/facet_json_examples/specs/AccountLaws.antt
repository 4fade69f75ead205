-- The laws of accounts, field by field.
use Rattle.std.specs.Prelude.{codes, refl}
use Rattle.facet_json.specs.Shapes.{ShapeLaws}
use Rattle.facet_json.proofs.StructLaws.{struct-laws, needs-laws, may_have-laws, no_more-laws}
use Rattle.facet_json.proofs.TypeLaws.{bool-laws, text-laws, u8-laws, u32-laws, u64-laws, i32-laws, list-laws}
use Rattle.facet_json_examples.specs.Accounts.{account}

pub account-laws : ShapeLaws account
account-laws = struct-laws
    (needs-laws (codes "id") u64-laws (needs-laws (codes "name") text-laws (needs-laws (codes "email") text-laws (needs-laws (codes "active") bool-laws
    (needs-laws (codes "age") u8-laws (needs-laws (codes "score") i32-laws (needs-laws (codes "visits") u32-laws (may_have-laws (codes "city") text-laws
    (needs-laws (codes "tags") (list-laws text-laws) (may_have-laws (codes "parent") u64-laws no_more-laws))))))))))
    refl
