-- Where the last member with a name stands.
-- The laws of `PartialEq` and `Eq`, whose proofs the language wants here.
-- Definitions that serve private contracts alone.
pub mod Beyond
pub mod LastNamed
pub mod PointerParts
pub mod Reading
pub mod SameLaws
pub mod WithMember
