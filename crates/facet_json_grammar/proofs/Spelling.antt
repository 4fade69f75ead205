pub mod OneSpelling
pub mod PlainIsJsonc
pub mod SpelledIsSpells
pub mod TokenSuffixes
