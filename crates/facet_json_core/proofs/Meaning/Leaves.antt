-- Types that have their value from one scalar.
pub mod BorrowedLaws
pub mod LeafLaws
pub mod LeafReadings
pub mod RawLaws
pub mod ScalarReadings
pub mod TextLaws
pub mod TruthLaws
pub mod WholeNumbers
pub mod WideNumbers
