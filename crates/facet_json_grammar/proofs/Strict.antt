-- Documents of RFC 8259 alone, and texts of its grammar.
pub mod DocumentIsText
pub mod FirstTokens
pub mod ReadableTexts
pub mod ScalarTexts
pub mod TextIsDocument
pub mod WrittenTexts
