-- Definitions that serve private contracts alone.
pub mod Found
pub mod Stands
