-- What is written of a scalar, and the token that it is.
pub mod DecimalDigits
pub mod EscapedBytes
pub mod HexTexts
pub mod Literals
pub mod Numbers
pub mod OneToken
pub mod QuotedTexts
pub mod Spaces
pub mod WholeNumbers
