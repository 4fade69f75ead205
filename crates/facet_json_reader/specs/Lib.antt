pub mod Inner
pub mod LanguageViews
pub mod Packed
pub mod Pieces
pub mod PlaceViews
pub mod TokenViews
pub mod Values
pub mod Views
