pub mod ByteTexts
pub mod CallsTaken
mod DecimalLengths
mod Escapes
mod Places
mod PlainTexts
pub mod Settled
pub mod TreesByCalls
pub mod ValuesBegun
