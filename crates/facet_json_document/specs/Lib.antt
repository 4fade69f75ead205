pub mod Formatted
pub mod Inner
pub mod Nodes
pub mod OwnNumber
pub mod Pieces
pub mod QuotedText
