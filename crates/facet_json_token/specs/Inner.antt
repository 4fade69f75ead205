-- Definitions that serve private contracts alone.
pub mod Ascii
pub mod InSight
pub mod RfcWindow
pub mod Run
pub mod Window
