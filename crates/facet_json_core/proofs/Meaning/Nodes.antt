-- The node of a text, wherever the text stands.
pub mod MovedNodes
pub mod NodesInOrder
pub mod NodesSpelled
pub mod NodesWithin
pub mod TextsThrough
pub mod TextsWithin
