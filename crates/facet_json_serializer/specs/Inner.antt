-- Definitions that serve private contracts alone.
pub mod Open
pub mod Places
pub mod Window
pub mod Writes
