-- Trees as values.
pub mod DocumentTrees
pub mod TextsDecoded
pub mod TreeLaws
pub mod TreeOnWalk
