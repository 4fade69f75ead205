pub mod BracketTurns
pub mod EndsAtRun
pub mod EventsOpen
pub mod MovesOpen
pub mod OpenBrackets
pub mod PartsOpen
