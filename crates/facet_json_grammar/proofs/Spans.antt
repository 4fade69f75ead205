pub mod AnswersWithin
pub mod BytesAhead
pub mod EventsWithin
