pub mod Lent
pub mod LentLaws
pub mod PercentLaws
pub mod Percents
