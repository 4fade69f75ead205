-- How tokens are cut within a longer text.
pub mod CutsBefore
pub mod CutsWithin
pub mod MovedTokens
pub mod NumbersBefore
pub mod ShapesBetween
