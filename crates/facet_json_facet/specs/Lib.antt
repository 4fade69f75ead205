pub mod Inner
pub mod Inputs
