-- Words of 64 bits.
pub mod Lanes
pub mod Prefix
pub mod Test
