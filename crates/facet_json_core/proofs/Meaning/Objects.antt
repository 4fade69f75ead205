-- Maps, and the members of an object.
pub mod MapEntries
pub mod MapLaws
pub mod MapReadings
pub mod MapTexts
pub mod MembersOnWalk
pub mod ObjectTexts
