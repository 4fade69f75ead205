pub mod PercentLaws
