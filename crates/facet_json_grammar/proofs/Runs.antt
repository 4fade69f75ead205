pub mod BreaksWithin
pub mod OneRun
pub mod PassedRuns
pub mod RunsPassed
pub mod SpelledRuns
