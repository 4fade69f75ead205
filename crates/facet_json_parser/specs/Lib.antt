pub mod Lookahead
pub mod Inner
pub mod PartViews
pub mod Ready
pub mod RunViews
pub mod Steps
pub mod Views
