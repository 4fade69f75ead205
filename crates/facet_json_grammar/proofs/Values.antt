-- Bytes that are read as one value.
pub mod Containers
pub mod FitBefore
pub mod OneValue
pub mod RawValues
pub mod Readings
pub mod StrictMoved
pub mod TreeTexts
