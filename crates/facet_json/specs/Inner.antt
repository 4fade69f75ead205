-- Definitions that serve private contracts alone.
pub mod LinePieces
pub mod LinePlaces
pub mod MembersInSight
pub mod Nested
pub mod Pointing
