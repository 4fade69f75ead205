-- Where a parser stands on a walk after each call.
pub mod FirstEvents
pub mod LookAhead
pub mod NextOnWalk
pub mod PartOnWalk
pub mod PeekOnWalk
pub mod RawOnWalk
pub mod SkipOnWalk
