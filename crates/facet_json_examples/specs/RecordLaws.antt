-- The laws of the structs of `records`, field by field.
use Rattle.std.specs.Prelude.{codes, refl}
use Rattle.facet_json.specs.Shapes.{Shape, ShapeLaws}
use Rattle.facet_json.proofs.StructLaws.{struct-laws, needs-laws, may_have-laws, no_more-laws}
use Rattle.facet_json.proofs.TypeLaws.{text-laws, u16-laws, u32-laws, list-laws}
use Rattle.facet_json_examples.specs.Records.{person, response, retry, config}

pub person-laws : ShapeLaws person
person-laws = struct-laws (needs-laws (codes "name") text-laws (needs-laws (codes "age") u32-laws no_more-laws)) refl

pub response-laws : {V : Type 0} {payload : Shape V} → ShapeLaws payload → ShapeLaws (response payload)
response-laws laws = struct-laws (needs-laws (codes "status") u32-laws (needs-laws (codes "data") laws no_more-laws)) refl

pub retry-laws : ShapeLaws retry
retry-laws = struct-laws (needs-laws (codes "times") u32-laws (may_have-laws (codes "wait") u32-laws no_more-laws)) refl

pub config-laws : ShapeLaws config
config-laws = struct-laws
    (needs-laws (codes "host") text-laws (may_have-laws (codes "port") u16-laws
    (needs-laws (codes "tags") (list-laws text-laws) (may_have-laws (codes "retry") retry-laws no_more-laws))))
    refl
