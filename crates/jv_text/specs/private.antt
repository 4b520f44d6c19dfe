-- What only contracts of private functions cite.
pub mod Escapes
pub mod Rows
pub mod Tokens
pub mod Appending
pub mod Unreadable
pub mod Runs
pub mod PlainTokens
pub mod Met
pub mod Pieces
