-- Definitions that serve private contracts and rows alone.
pub mod PassedRun
