pub mod BracketsOnWalk
pub mod FinishedComes
pub mod OnePart
pub mod PartsOnWalk
pub mod PartsWithin
pub mod PlacesOnWalk
pub mod TokensAfterRuns
pub mod WalksAreValues
