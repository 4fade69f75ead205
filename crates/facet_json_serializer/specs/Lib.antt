pub mod Inner
pub mod OptionsViews
pub mod Serializer
pub mod TreeCalls
pub mod Views
