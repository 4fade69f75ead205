-- What more bytes leave of what stands in a buffer.
pub mod GrowthOfCut
pub mod GrowthOfGap
pub mod GrowthOfNumber
pub mod GrowthOfText
