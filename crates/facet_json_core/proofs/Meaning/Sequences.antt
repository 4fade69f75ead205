-- Lists.
pub mod ListLaws
pub mod ListSteps
