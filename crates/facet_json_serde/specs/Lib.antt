pub mod Ahead
pub mod Begun
pub mod Messages
pub mod OneValue
pub mod Within
