pub mod WalkRows
