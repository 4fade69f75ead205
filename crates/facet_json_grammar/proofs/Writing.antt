pub mod QuotedByCharacters
