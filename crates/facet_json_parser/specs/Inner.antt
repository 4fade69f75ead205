-- Definitions that serve private contracts alone.
pub mod Leads
pub mod Marks
pub mod Passages
pub mod Passing
pub mod Quiet
pub mod Sight
pub mod Wanted
