pub mod CutRows
pub mod DecodeRows
pub mod FaultRows
