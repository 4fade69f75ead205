-- What is passed of a value, on every input.
pub mod EventTokens
pub mod EventsPassed
pub mod KindsPassed
pub mod PartsPassed
pub mod WithinValues
