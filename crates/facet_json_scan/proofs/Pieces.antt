-- What the end of a buffer cuts, and how it goes on.
pub mod Beginnings
pub mod NumberParts
pub mod PendingComment
pub mod PendingNumber
pub mod PendingText
pub mod PendingWord
