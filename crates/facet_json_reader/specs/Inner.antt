-- Definitions that serve private contracts alone.
pub mod Digits
pub mod InSight
pub mod Quick
pub mod Short
pub mod Sorts
pub mod Soughts
pub mod Whole
pub mod Window
