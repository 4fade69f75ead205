pub mod DocumentRows
pub mod QuotedRows
pub mod RunRows
pub mod TextRows
