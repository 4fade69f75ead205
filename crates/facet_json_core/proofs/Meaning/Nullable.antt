-- Values that may be null.
pub mod OptionalLaws
pub mod OptionalReadings
