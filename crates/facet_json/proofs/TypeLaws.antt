-- The laws of each type, under this crate's name: what a crate above cites of a clause has to be declared in a crate that it uses.
use Rattle.facet_json_core.proofs.Meaning.TypeLaws as laws
use Rattle.facet_json_core.specs.Meaning.Shapes.{Shape, ShapeLaws, nullable}
use Rattle.facet_json_core.specs.Meaning.Types as types

pub bool-laws : ShapeLaws types.bool
bool-laws = laws.bool-laws

pub u8-laws : ShapeLaws types.u8
u8-laws = laws.u8-laws

pub u16-laws : ShapeLaws types.u16
u16-laws = laws.u16-laws

pub u32-laws : ShapeLaws types.u32
u32-laws = laws.u32-laws

pub u64-laws : ShapeLaws types.u64
u64-laws = laws.u64-laws

pub u128-laws : ShapeLaws types.u128
u128-laws = laws.u128-laws

pub i8-laws : ShapeLaws types.i8
i8-laws = laws.i8-laws

pub i16-laws : ShapeLaws types.i16
i16-laws = laws.i16-laws

pub i32-laws : ShapeLaws types.i32
i32-laws = laws.i32-laws

pub i64-laws : ShapeLaws types.i64
i64-laws = laws.i64-laws

pub i128-laws : ShapeLaws types.i128
i128-laws = laws.i128-laws

pub text-laws : ShapeLaws types.text
text-laws = laws.text-laws

pub borrowed-laws : ShapeLaws types.borrowed
borrowed-laws = laws.borrowed-laws

pub raw-laws : ShapeLaws types.raw
raw-laws = laws.raw-laws

pub list-laws : {V : Type 0} {s : Shape V} → ShapeLaws s → ShapeLaws (types.list s)
list-laws of = laws.list-laws of

pub entries-laws : {V : Type 0} {s : Shape V} → ShapeLaws s → ShapeLaws (types.entries s)
entries-laws of = laws.entries-laws of

pub any-laws : ShapeLaws types.any
any-laws = laws.any-laws

pub nullable-laws : {V : Type 0} {s : Shape V} → ShapeLaws s → ShapeLaws (nullable s)
nullable-laws of = laws.nullable-laws of
