-- What is proved about the definitions.
pub mod OneBinder
pub mod Escapes
pub mod Lexed
pub mod OneReading
pub mod Binders
pub mod Names
pub mod Standing
