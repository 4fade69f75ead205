-- The laws of each type.
use Rattle.std.proofs.Common.{Option}
use Rattle.facet_json_grammar.specs.Tree.{Tree}
use Rattle.facet_json_core.specs.Meaning.Laws.{ReadsBack}
use Rattle.facet_json_core.specs.Meaning.Readings.{leaf, bool_of, unsigned_of, signed_of, text_of_tree, u128_of, i128_of}
use Rattle.facet_json_core.proofs.Meaning.Leaves.BorrowedLaws.{borrowed-same, unread-same, unread-reads_back}
use Rattle.facet_json_core.proofs.Meaning.Leaves.LeafLaws.{leaf-same}
use Rattle.facet_json_core.proofs.Meaning.Sequences.ListLaws.{list-same, list-reads_back}
use Rattle.facet_json_core.proofs.Meaning.Objects.MapLaws.{map-same}
use Rattle.facet_json_core.proofs.Meaning.Objects.MapTexts.{map-reads_back}
use Rattle.facet_json_core.proofs.Meaning.Leaves.RawLaws.{raw-same, raw-reads_back}
use Rattle.facet_json_core.proofs.Meaning.Leaves.TextLaws.{text-reads_back}
use Rattle.facet_json_core.proofs.Meaning.OfTrees.TreeLaws.{tree-same, tree-reads_back}
use Rattle.facet_json_core.proofs.Meaning.Leaves.TruthLaws.{bool-reads_back}
use Rattle.facet_json_core.proofs.Meaning.Leaves.WholeNumbers.{u8-reads_back, u16-reads_back, u32-reads_back, u64-reads_back, i8-reads_back, i16-reads_back, i32-reads_back, i64-reads_back}
use Rattle.facet_json_core.proofs.Meaning.Leaves.WideNumbers.{u128-reads_back, i128-reads_back}
use Rattle.facet_json_core.proofs.Meaning.Nullable.OptionalLaws.{optional-same, optional-reads_back}
use Rattle.facet_json_core.specs.Meaning.Shapes.{Shape, ShapeLaws, nullable}
use Rattle.facet_json_core.specs.Meaning.Types as types

pub scalar-laws : {V : Type 0} (takes : Tree → Option V) {tree_of : V → Tree} {always : V → Type 0} →
    ReadsBack (leaf takes) tree_of always (λ v. Unit {0}) → ShapeLaws (types.scalar takes tree_of always)
scalar-laws takes back = record { same_reading = leaf-same takes; same_reading_borrowed = leaf-same takes; reads_back = back }

pub bool-laws : ShapeLaws types.bool
bool-laws = scalar-laws bool_of bool-reads_back

pub u8-laws : ShapeLaws types.u8
u8-laws = scalar-laws (unsigned_of 8) u8-reads_back

pub u16-laws : ShapeLaws types.u16
u16-laws = scalar-laws (unsigned_of 16) u16-reads_back

pub u32-laws : ShapeLaws types.u32
u32-laws = scalar-laws (unsigned_of 32) u32-reads_back

pub u64-laws : ShapeLaws types.u64
u64-laws = scalar-laws (unsigned_of 64) u64-reads_back

pub u128-laws : ShapeLaws types.u128
u128-laws = scalar-laws u128_of u128-reads_back

pub i8-laws : ShapeLaws types.i8
i8-laws = scalar-laws (signed_of 7) i8-reads_back

pub i16-laws : ShapeLaws types.i16
i16-laws = scalar-laws (signed_of 15) i16-reads_back

pub i32-laws : ShapeLaws types.i32
i32-laws = scalar-laws (signed_of 31) i32-reads_back

pub i64-laws : ShapeLaws types.i64
i64-laws = scalar-laws (signed_of 63) i64-reads_back

pub i128-laws : ShapeLaws types.i128
i128-laws = scalar-laws i128_of i128-reads_back

pub text-laws : ShapeLaws types.text
text-laws = scalar-laws text_of_tree text-reads_back

pub borrowed-laws : ShapeLaws types.borrowed
borrowed-laws = record { same_reading = unread-same; same_reading_borrowed = borrowed-same; reads_back = unread-reads_back }

pub raw-laws : ShapeLaws types.raw
raw-laws = record { same_reading = raw-same; same_reading_borrowed = raw-same; reads_back = raw-reads_back }

pub list-laws : {V : Type 0} {s : Shape V} → ShapeLaws s → ShapeLaws (types.list s)
list-laws {s = s} laws = record {
  same_reading = list-same s.reading laws.same_reading;
  same_reading_borrowed = list-same s.reading_borrowed laws.same_reading_borrowed;
  reads_back = list-reads_back s.reading s.tree_of s.always s.readable laws.same_reading laws.reads_back;
}

pub entries-laws : {V : Type 0} {s : Shape V} → ShapeLaws s → ShapeLaws (types.entries s)
entries-laws {s = s} laws = record {
  same_reading = map-same s.reading laws.same_reading;
  same_reading_borrowed = map-same s.reading_borrowed laws.same_reading_borrowed;
  reads_back = map-reads_back s.reading s.tree_of s.always s.readable laws.same_reading laws.reads_back;
}

pub any-laws : ShapeLaws types.any
any-laws = record { same_reading = tree-same; same_reading_borrowed = tree-same; reads_back = tree-reads_back }

pub nullable-laws : {V : Type 0} {s : Shape V} → ShapeLaws s → ShapeLaws (nullable s)
nullable-laws {s = s} laws = record {
  same_reading = optional-same s.reading laws.same_reading;
  same_reading_borrowed = optional-same s.reading_borrowed laws.same_reading_borrowed;
  reads_back = optional-reads_back s.reading s.tree_of s.always s.readable laws.reads_back;
}
