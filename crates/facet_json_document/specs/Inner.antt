-- Definitions that serve private contracts alone.
pub mod Building
pub mod Checking
pub mod Held
pub mod Layout
pub mod Looking
pub mod NodeSound
pub mod PlainNumbers
